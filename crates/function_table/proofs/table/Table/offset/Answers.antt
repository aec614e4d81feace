use Rattle.std.proofs.Common.{arith, ◌<◌, ◌∙◌, sym}
use Rattle.fc_numbers.specs.declared.places.TheConstants.{RAM_START}
use Rattle.fc_numbers.specs.Spans.{in_text, offset_in, text_size}
use Rattle.fc_numbers.proofs.TextLaws.{offset_below}
use Rattle.function_table.proofs.GroupLemmas.{some-held}
use Rattle.function_table.proofs.table.Table.offset.Goals as goal

pub overflow_cast-result : goal.overflow_cast-result
overflow_cast-result c =
    let text = c.self.inside.text.items in
    let held = some-held (in_text text c.args.at) (offset_in text c.args.at) c.in-Some.offset (sym (rw c.as_slice.ensures.value at c.offset_of.ensures) ∙ c.in-Some.is) in
    let below : offset_in text c.args.at < text_size text = offset_below text RAM_START c.args.at c.self.invariant.text.ranges held.0 in
    omega (arith, below, held.1, c.self.invariant.text.size)
