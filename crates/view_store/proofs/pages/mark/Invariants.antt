use Rattle.std.proofs.Common.{◌≡◌, ℕ}
use Rattle.std.specs.Prelude.{if◌then◌else◌, slice_index}
use Rattle.function_table.specs.Groups.{is_between}
use Rattle.view_store.specs.declared.pages.TheConstants.{KEEP}
use Rattle.view_store.proofs.pages.mark.Given as goal

abbrev pub invariant-loop-n : goal.invariant-loop-n
invariant-loop-n l = (k : ℕ) → slice_index l.marks k ≡ (if is_between l.fn.from l.n k then KEEP else slice_index l.fn.marks k)
