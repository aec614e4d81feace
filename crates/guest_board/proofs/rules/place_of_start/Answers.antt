use Rattle.std.proofs.Common.{◌≡◌, sym, ap, ◌∙◌, arith, take}
use Rattle.std.proofs.lemmas.List.{take_min}
use Rattle.fc_numbers.specs.Spans.{text_size}
use Rattle.guest_input.specs.Text.{bytes_before, flat_of}
use Rattle.guest_board.proofs.Parts.{front_size, place_past}
use Rattle.guest_board.proofs.rules.place_of_start.Goals as goal

pub text_size-requires : goal.text_size-requires
text_size-requires c = record { few = omega (arith, front_size c.min-range.result c.args.spans.now, c.requires.few) }

pub overflow_add-offset : goal.overflow_add-offset
overflow_add-offset c = omega (arith, front_size c.min-range.result c.args.spans.now, c.requires.few, c.text_size.ensures)

pub returns-else-offset-text_size : goal.returns-else-offset-text_size
returns-else-offset-text_size c =
    let before : c.text_size.result ≡ bytes_before c.args.spans.now c.args.at.range =
    c.text_size.ensures ∙ ap (λ n. text_size (take n c.args.spans.now)) c.min-range.ensures ∙ ap text_size (take_min c.args.at.range c.args.spans.now) in
    sym (place_past c.args.spans.now (flat_of c.args.spans.now c.args.at) (omega (arith, before, c.text_size-2.ensures, c.if-offset-text_size.false)))
