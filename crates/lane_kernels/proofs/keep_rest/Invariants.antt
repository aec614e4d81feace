use Rattle.std.proofs.Common.{◌≡◌, length, ℕ}
use Rattle.std.specs.Prelude.{if◌then◌else◌, slice_index, nat_le, nat_lt, ◌&&◌}
use Rattle.lane_kernels.specs.Kernels.{kept_at}
use Rattle.lane_kernels.proofs.keep_rest.Given as goal

abbrev pub invariant-loop-n : goal.invariant-loop-n
invariant-loop-n l = (length l.out ≡ length l.fn.out) × ((k : ℕ) → slice_index l.out k ≡ (if nat_le l.from k && nat_lt k l.n then kept_at l.src l.keep k else slice_index l.fn.out k))
