use Rattle.std.proofs.Common.{◌≡◌, length, ℕ, ◌*◌}
use Rattle.std.specs.Prelude.{if◌then◌else◌, slice_index, nat_lt}
use Rattle.lane_kernels.specs.Kernels.{kept_at}
use Rattle.lane_kernels.proofs.keep_or_zero.Given as goal

abbrev pub invariant-loop-k : goal.invariant-loop-k
invariant-loop-k l = (length l.out ≡ length l.fn.out) × ((n : ℕ) → slice_index l.out n ≡ (if nat_lt n (32 * l.k) then kept_at l.src l.keep n else slice_index l.fn.out n))
