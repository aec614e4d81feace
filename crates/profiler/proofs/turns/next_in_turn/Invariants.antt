use Rattle.std.proofs.Common.{◌≡◌, ℕ, ◌<◌, ◌≤◌, false}
use Rattle.guest_board.specs.Board.{may}
use Rattle.profiler.proofs.turns.next_in_turn.Given as goal

-- none of those above the last one may step so far
abbrev pub invariant-loop-i : goal.invariant-loop-i
invariant-loop-i l = (k : ℕ) → l.fn.last < k → k < l.i → may l.board.rules l.board.state k ≡ false

-- and none of those from 0 on
abbrev pub invariant-loop-i-2 : goal.invariant-loop-i-2
invariant-loop-i-2 l =
    ((k : ℕ) → l.fn.last < k → may l.board.rules l.board.state k ≡ false)
    × ((k : ℕ) → k < l.i → may l.board.rules l.board.state k ≡ false)
