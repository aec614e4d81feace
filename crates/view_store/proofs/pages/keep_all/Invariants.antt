use Rattle.std.proofs.Common.{◌≡◌, ◌≤◌, ◌-◌, ℕ, length}
use Rattle.std.specs.Prelude.{◌==◌, if◌then◌else◌, slice_index, nat_lt}
use Rattle.function_table.specs.Groups.{half_of}
use Rattle.view_store.proofs.pages.keep_all.Given as goal

abbrev pub invariant-loop-at : goal.invariant-loop-at
invariant-loop-at l = record {
  within : l.at ≤ length l.marks;
  each : (k : ℕ) → slice_index l.pages k ≡ (if nat_lt k l.at then (if slice_index l.marks k == 0 then 0 else half_of l.text k) else slice_index l.fn.pages k);
}

abbrev pub decreases-loop-at : goal.decreases-loop-at
decreases-loop-at l = length l.marks - l.at
