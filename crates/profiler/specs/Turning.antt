-- A round-robin run on its way.
use Rattle.std.specs.Prelude.{◌≡◌, ℕ, ◌<◌, List, length}
use Rattle.guest_board.specs.Board.{Seat}
use Rattle.run_evidence.specs.Config.{Config}
use Rattle.run_evidence.specs.Growing.{board_of}
use Rattle.profiler.specs.RoundRobin.{TakesTurns, vcpu_before}
use Rattle.profiler.specs.Tally.{IsTally}
use Rattle.profiler.specs.declared.tally.Tally.{Tally}

-- the board, the tally and the vCPU that stepped last are those of the turns so far
pub record IsTurning (c : Config) (b : Seat) (t : Tally) (last : ℕ) : Type 0 where
  pub board : b ≡ board_of c b.schedule
  pub turns : TakesTurns c b.schedule
  pub tally : IsTally c b.schedule t
  pub before : last ≡ vcpu_before c b.schedule (length b.schedule)
  pub within : last < length b.state.slots
