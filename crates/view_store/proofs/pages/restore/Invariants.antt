use Rattle.std.proofs.Common.{◌≡◌, ◌≤◌, ◌-◌, ℕ}
use Rattle.std.specs.Prelude.{if◌then◌else◌, slice_index}
use Rattle.function_table.specs.Groups.{half_of, is_between}
use Rattle.view_store.proofs.pages.restore.Given as goal

abbrev pub invariant-loop-at : goal.invariant-loop-at
invariant-loop-at l = record {
  order : l.from ≤ l.at;
  within : l.at ≤ l.to;
  each : (k : ℕ) → slice_index l.pages k ≡ (if is_between l.from l.at k then half_of l.text k else slice_index l.fn.pages k);
}

abbrev pub decreases-loop-at : goal.decreases-loop-at
decreases-loop-at l = l.to - l.at
