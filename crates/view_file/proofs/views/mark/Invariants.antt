use Rattle.std.proofs.Common.{◌≡◌, ℕ, ◌||◌, false, length, take}
use Rattle.std.specs.Prelude.{slice_index_or}
use Rattle.view_file.specs.Base.{holds_one}
use Rattle.view_file.proofs.views.mark.Given as goal

abbrev pub invariant-loop-at : goal.invariant-loop-at
invariant-loop-at l =
    (length l.groups.items ≡ length l.initial.groups.items)
    × ((g : ℕ) → slice_index_or l.groups.items g false
    ≡ (slice_index_or l.initial.groups.items g false || holds_one l.table (take l.at-index l.functions) g))
