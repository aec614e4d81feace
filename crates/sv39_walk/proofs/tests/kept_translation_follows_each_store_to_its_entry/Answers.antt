use Rattle.std.proofs.Common.{arith}
use Rattle.sv39_walk.proofs.tests.kept_translation_follows_each_store_to_its_entry.Goals as goal

pub store_leaf-requires-2-clause-stamps : goal.store_leaf-requires-2-clause-stamps
store_leaf-requires-2-clause-stamps g c = λ frame. omega (arith, c.store_leaf.ensures.stamps 1 c.in_ok-ram.ensures.stamps frame)
