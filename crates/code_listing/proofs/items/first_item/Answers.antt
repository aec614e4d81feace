use Rattle.std.proofs.Common.{◌<◌, arith}
use Rattle.code_listing.proofs.ItemLemmas.{some-zeros, zeros-here}
use Rattle.code_listing.proofs.items.first_item.Goals as goal

pub returns-then-half-eq0-clause-first : goal.returns-then-half-eq0-clause-first
returns-then-half-eq0-clause-first c =
    let some : 0 < c.leading_zeros-count.result = omega (arith, c.leading_zeros-count.ensures.count, some-zeros c.args.halves.now c.requires.some c.if-half-eq0.true) in
    zeros-here c.args.halves.now c.leading_zeros-count.result c.leading_zeros-count.ensures.count some
