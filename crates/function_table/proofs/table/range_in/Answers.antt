use Rattle.std.proofs.Common.{◌≡◌, ◌+◌, ◌<◌, ◌≤◌, true, arith, length}
use Rattle.fc_numbers.specs.declared.places.TheConstants.{RAM_START, RAM_MOST}
use Rattle.fc_numbers.specs.Spans.{in_text, place_in, text_size}
use Rattle.fc_numbers.proofs.TextLaws.{place_inside}
use Rattle.function_table.proofs.GroupLemmas.{ends-within}
use Rattle.function_table.proofs.table.range_in.Goals as goal

pub place_of-start-requires : goal.place_of-start-requires
place_of-start-requires c =
    let some : c.g.inside.0 ≤ length c.args.starts.now = rw c.g.view_is c.requires.some in
    let x = ends-within (text_size c.args.text.now) c.g.inside.0 c.args.starts.now c.requires.starts some in
    record { inside = rw c.first_in-first.ensures (omega (arith, x.0, x.1)) }

pub overflow_sub-end : goal.overflow_sub-end
overflow_sub-end c =
    let some : c.g.inside.0 ≤ length c.args.starts.now = rw c.g.view_is c.requires.some in
    let x = ends-within (text_size c.args.text.now) c.g.inside.0 c.args.starts.now c.requires.starts some in
    rw (c.first_in-first.ensures, c.end_in-end.ensures) (omega (arith, x.0))

pub behind-requires : goal.behind-requires
behind-requires c =
    let some : c.g.inside.0 ≤ length c.args.starts.now = rw c.g.view_is c.requires.some in
    let x = ends-within (text_size c.args.text.now) c.g.inside.0 c.args.starts.now c.requires.starts some in
    let inside : c.first_in-first.result < text_size c.args.text.now = rw c.first_in-first.ensures (omega (arith, x.0, x.1)) in
    let here : in_text c.args.text.now (place_in c.args.text.now c.first_in-first.result) ≡ true = place_inside c.args.text.now RAM_START c.first_in-first.result c.requires.text.ranges inside in
    let high : place_in c.args.text.now c.first_in-first.result < RAM_START + RAM_MOST = c.requires.text.high (place_in c.args.text.now c.first_in-first.result) here in
    let end : c.end_in-end.result ≤ text_size c.args.text.now = rw c.end_in-end.ensures x.1 in
    rw c.place_of-start.ensures (omega (arith, high, end, c.requires.text.size))
