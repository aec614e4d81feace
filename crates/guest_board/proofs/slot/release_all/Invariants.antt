use Rattle.std.proofs.Common.{◌≡◌, ◌++◌, take, drop, map}
use Rattle.guest_board.specs.Board.{broken}
use Rattle.guest_board.proofs.slot.release_all.Given as goal

abbrev pub invariant-loop-slot : goal.invariant-loop-slot
invariant-loop-slot l = l.slots ≡ map (broken l.fn.place) (take l.slot-index l.fn.slots) ++ drop l.slot-index l.fn.slots
