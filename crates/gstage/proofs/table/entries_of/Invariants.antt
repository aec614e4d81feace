use Rattle.std.proofs.Common.{◌≡◌, ◌<◌, ℕ, vec_len, get_or}
use Rattle.gstage.specs.Layout.{entry_value}
use Rattle.gstage.proofs.table.entries_of.Given as goal

abbrev pub invariant-loop-i : goal.invariant-loop-i
invariant-loop-i l = (vec_len l.entries ≡ l.i) × ((k : ℕ) → k < l.i → get_or l.entries.items k 0 ≡ entry_value l.kind l.text l.ram l.view k)
