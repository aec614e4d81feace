use Rattle.std.proofs.Common.{arith}
use Rattle.std.proofs.Math.Nat.{mod-add-mod}
use Rattle.guest_maker.specs.Generator.{generator_next}
use Rattle.guest_maker.proofs.generator.Generator.draw.Goals as goal

pub returns-clause-state : goal.returns-clause-state
unfolding generator_next
returns-clause-state c = grind (arith, mod-add-mod)
