use Rattle.std.proofs.Common.{◌≡◌, take}
use Rattle.arrayvec.specs.ArrayVec.{array_vec_len}
use Rattle.guest_input.proofs.ranges.copy_of.Given as goal

abbrev pub invariant-loop-span : goal.invariant-loop-span
invariant-loop-span l = (array_vec_len l.copy ≡ l.span-index) × (l.copy.items ≡ take l.span-index l.spans)
