use Rattle.std.proofs.Common.{◌≡◌, map}
use Rattle.std.specs.List.{range_with_len}
use Rattle.guest_board.specs.First.{first_slot}
use Rattle.guest_board.proofs.open.start_slots.Given as goal

abbrev pub invariant-loop-i : goal.invariant-loop-i
invariant-loop-i l = l.slots.items ≡ map (first_slot l.entry l.name) (range_with_len 0 l.i)
