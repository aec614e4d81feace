use Rattle.std.proofs.Common.{◌≡◌, ◌*◌, length}
use Rattle.guest_input.specs.Accepted.{IsStarts}
use Rattle.function_table.proofs.tests.evens.Given as goal

abbrev pub invariant-loop-k : goal.invariant-loop-k
invariant-loop-k l = record { starts : IsStarts l.offsets.items (2 * l.k); len : length l.offsets.items ≡ l.k }
