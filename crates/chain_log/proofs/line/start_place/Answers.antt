use Rattle.std.proofs.Common.{arith, ◌∙◌, sym}
use Rattle.guest_input.specs.Text.{flat_of}
use Rattle.function_table.specs.Groups.{has_start}
use Rattle.function_table.proofs.GroupLemmas.{none-outside, some-held, start-below}
use Rattle.chain_log.proofs.line.start_place.Goals as goal

pub unreachable-requires : goal.unreachable-requires
unreachable-requires c =
    let text = c.args.table.now.text in
    none-outside (has_start text c.args.at) (flat_of text c.args.at) c.requires (sym c.flat.ensures ∙ c.in_default.is)

pub place_of-requires : goal.place_of-requires
place_of-requires c =
    let text = c.args.table.now.text in
    let held = some-held (has_start text c.args.at) (flat_of text c.args.at) c.in-Some.offset (sym c.flat.ensures ∙ c.in-Some.is) in
    record { inside = rw c.text.ensures.value (omega (arith, held.1, start-below text c.args.at c.requires)) }
