use Rattle.std.proofs.Common.{◌≡◌, length, drop}
use Rattle.guest_board.specs.First.{with_parts}
use Rattle.guest_board.proofs.open.place_parts.Given as goal

abbrev pub invariant-loop-part : goal.invariant-loop-part
invariant-loop-part l = record {
  rest : with_parts l.ram (drop l.part-index l.image.parts) ≡ with_parts l.fn.ram l.image.parts;
  size : length l.ram.bytes ≡ length l.fn.ram.bytes;
}
