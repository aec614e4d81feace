use Rattle.std.proofs.Common.{◌≡◌, ◌≤◌, ◌<◌, ◌-◌, ℕ, true, length}
use Rattle.std.specs.Prelude.{◌==◌, slice_index}
use Rattle.code_listing.proofs.items.leading_zeros.Given as goal

abbrev pub invariant-loop-count : goal.invariant-loop-count
invariant-loop-count l = record {
  within : l.count ≤ length l.halves;
  each : (k : ℕ) → k < l.count → (slice_index l.halves k == 0) ≡ true;
}

abbrev pub decreases-loop-count : goal.decreases-loop-count
decreases-loop-count l = length l.halves - l.count
