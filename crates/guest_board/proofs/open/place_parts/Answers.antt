use Rattle.std.proofs.Common.{◌+◌, ◌≤◌, length, arith}
use Rattle.fc_numbers.specs.declared.places.TheConstants.{RAM_START}
use Rattle.guest_input.specs.Text.{spans_of}
use Rattle.guest_input.specs.Accepted.{IsPartOf}
use Rattle.guest_board.proofs.Parts.{part-here, ends-here}
use Rattle.guest_board.proofs.open.place_parts.Goals as goal

pub invariant_of-place_part : goal.invariant_of-place_part
invariant_of-place_part c =
    let part : IsPartOf (spans_of c.args.image.now.ranges) c.part-item.result = part-here _ c.loop-part.part-index c.as_slice-part-items.result.now c.args.image.now.parts c.part-item.result c.as_slice-part-items.ensures c.part-item.is c.loop-part-test.true c.requires.image.parts in
    omega (arith, part.high)

pub place_part-requires-clause-low : goal.place_part-requires-clause-low
place_part-requires-clause-low c =
    let part : IsPartOf (spans_of c.args.image.now.ranges) c.part-item.result = part-here _ c.loop-part.part-index c.as_slice-part-items.result.now c.args.image.now.parts c.part-item.result c.as_slice-part-items.ensures c.part-item.is c.loop-part-test.true c.requires.image.parts in
    part.low

pub place_part-requires-clause-most : goal.place_part-requires-clause-most
place_part-requires-clause-most c =
    let part : IsPartOf (spans_of c.args.image.now.ranges) c.part-item.result = part-here _ c.loop-part.part-index c.as_slice-part-items.result.now c.args.image.now.parts c.part-item.result c.as_slice-part-items.ensures c.part-item.is c.loop-part-test.true c.requires.image.parts in
    part.high

pub place_part-requires-clause-high : goal.place_part-requires-clause-high
place_part-requires-clause-high c =
    let end : c.part-item.result.0 + length c.part-item.result.1 ≤ RAM_START + length c.args.ram.now.bytes =
    ends-here (RAM_START + length c.args.ram.now.bytes) c.loop-part.part-index c.as_slice-part-items.result.now c.args.image.now.parts c.part-item.result c.as_slice-part-items.ensures c.part-item.is c.loop-part-test.true c.requires.ends in
    rw c.loop-part.invariant.size end
