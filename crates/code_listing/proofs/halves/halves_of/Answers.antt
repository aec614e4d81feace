use Rattle.std.proofs.Common.{◌≡◌, ◌/◌, arith}
use Rattle.fc_numbers.specs.Spans.{offset_in}
use Rattle.code_listing.proofs.RangeLemmas.{range-within}
use Rattle.code_listing.proofs.halves.halves_of.Goals as goal

pub returns-clause-within : goal.returns-clause-within
returns-clause-within c =
    let t = c.args.table.now in
    let from : c.half_number-start.result ≡ offset_in t.text c.range-range.result.start / 2 = rw c.text.ensures.value at c.half_number-start.ensures in
    let all = range-within t c.args.g c.range-range.result c.offsets_rise.ensures c.offsets_are_below.ensures c.text.ensures.lawful c.range-range.ensures.exact in
    omega (arith, from, all, c.halves_in.ensures)

pub returns-clause-few : goal.returns-clause-few
returns-clause-few c = omega (arith, returns-clause-within c, c.text.ensures.lawful.text.size)
