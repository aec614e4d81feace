use Rattle.std.proofs.Common.{◌≡◌, ◌∙◌, ◌+◌, length, ap, arith}
use Rattle.fc_numbers.specs.declared.places.TheConstants.{RAM_START}
use Rattle.guest_ram.specs.Ram.{Ram}
use Rattle.guest_board.proofs.Parts.{first_is, lie_below}
use Rattle.guest_board.proofs.Started.{replicate-length}
use Rattle.guest_board.proofs.open.start_ram.Goals as goal

pub place_ranges-requires-clause-inside : goal.place_ranges-requires-clause-inside
place_ranges-requires-clause-inside c =
    let size : length c.in_ok-ram.ram.bytes ≡ c.args.setup.now.ram = ap (λ (r : Ram). length r.bytes) c.in_ok-ram.ensures.zeros ∙ replicate-length c.args.setup.now.ram 0 in
    let text = c.requires.setup.text in
    rw (size, c.spans.ensures.value) (lie_below RAM_START (RAM_START + c.args.setup.now.ram) _ (omega arith) text.ranges text.high)

pub returns : goal.returns
returns c =
    first_is c.args.image.now c.args.setup.now.ram c.in_ok-ram.ram c.place_ranges.new.ram c.place_parts.new.ram c.copy_spans.result.items c.spans.result.now c.bytes.result.now
    c.in_ok-ram.ensures.zeros c.copy_spans.ensures.value c.spans.ensures.value c.bytes.ensures.value c.place_ranges.ensures.after c.place_parts.ensures
