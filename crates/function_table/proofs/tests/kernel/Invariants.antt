use Rattle.std.proofs.Common.{◌≡◌}
use Rattle.std.specs.Prelude.{take}
use Rattle.guest_input.specs.Accepted.{starts_of}
use Rattle.function_table.proofs.tests.kernel.Given as goal

abbrev pub invariant-loop-at : goal.invariant-loop-at
invariant-loop-at l = starts_of l.functions ≡ take l.at-index l.starts
