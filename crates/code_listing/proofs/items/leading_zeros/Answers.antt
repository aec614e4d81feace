use Rattle.std.proofs.Common.{arith, sym}
use Rattle.std.specs.Prelude.{◌==◌}
use Rattle.std.proofs.lemmas.Bool.Decides.{nat_tests}
use Rattle.std.proofs.lemmas.List.Sums.{prefix_len_is}
use Rattle.code_listing.proofs.items.leading_zeros.Goals as goal

pub returns-else-halves-count-eq0-clause-count : goal.returns-else-halves-count-eq0-clause-count
returns-else-halves-count-eq0-clause-count c =
    sym (prefix_len_is (λ half. half == 0) c.args.halves.now c.loop-count.count 0 c.loop-count.invariant.within c.loop-count.invariant.each (λ inside. grind (arith, nat_tests, c.if-halves-count-eq0.false)))

pub returns-after-loop-count-clause-count : goal.returns-after-loop-count-clause-count
returns-after-loop-count-clause-count c =
    sym (prefix_len_is (λ half. half == 0) c.args.halves.now c.loop-count.count 0 c.loop-count.invariant.within c.loop-count.invariant.each (λ inside. absurd (omega (arith, inside, c.loop-count-test.false))))
