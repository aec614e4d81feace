use Rattle.std.proofs.Common.{◌≡◌}
use Rattle.guest_input.specs.declared.setup.Setup.{Setup}
use Rattle.turn_table.specs.Tried.{fresh_views}
use Rattle.turn_table.proofs.runs.first_views.Given as goal

abbrev pub invariant-loop-v : goal.invariant-loop-v
invariant-loop-v l = (setup : Setup) → l.views.items ≡ fresh_views (record { image = l.image; setup = setup; views = l.profile }) l.v
