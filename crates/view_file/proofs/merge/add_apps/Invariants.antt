use Rattle.std.proofs.Common.{◌≡◌, ◌||◌, List, ℕ, take}
use Rattle.view_file.specs.Union.{AreJoined, has_app}
use Rattle.view_file.proofs.merge.add_apps.Given as goal

abbrev pub invariant-loop-app : goal.invariant-loop-app
invariant-loop-app l =
    AreJoined l.a l.b l.joined.items
    × ((name : List ℕ) → has_app l.joined.items name ≡ (has_app l.initial.joined.items name || has_app (take l.app-index l.apps) name))
