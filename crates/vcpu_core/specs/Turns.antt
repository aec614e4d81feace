-- Several events of a running lane, one after another.
-- The rule: steps are made until so many were made, or a line is needed, or a zero traps, or the vCPU may not step.
use Rattle.std.specs.Prelude.{◌≡◌, ℕ, ◌+◌, Option, Some, None}
use Rattle.std.proofs.Common.{zero, suc}
use Rattle.view_file.specs.declared.views.Views.{Views}
use Rattle.view_file.specs.Named.{view_named}
use Rattle.guest_board.specs.declared.seen.Windows.{Windows}
use Rattle.guest_board.specs.declared.seen.Verdict.{Verdict}
use Rattle.guest_board.specs.declared.seen.Verdict.TheVariants.{Idle, Needs, Zeroes, Goes}
use Rattle.guest_board.specs.declared.rules.Rules.{Rules}
use Rattle.guest_board.specs.Step.{place_of}
use Rattle.guest_board.specs.Board.{Seat, is_same_place, name_of}
use Rattle.guest_board.specs.Seen.{verdict_of, after_verdict}
use Rattle.vcpu_core.specs.declared.lane.Lane.{Lane}
use Rattle.vcpu_core.specs.declared.lane.Phase.{Phase}
use Rattle.vcpu_core.specs.declared.lane.Phase.TheVariants.{Running}
use Rattle.vcpu_core.specs.declared.lane.Turned.{Turned}
use Rattle.vcpu_core.specs.declared.lane.Taken.{Taken}
use Rattle.vcpu_core.specs.declared.lane.Taken.TheVariants.{End, Step}
use Rattle.vcpu_core.specs.declared.lane.Then.{Then}
use Rattle.vcpu_core.specs.declared.lane.Then.TheVariants.{Limit, Need, Zero, Over}
use Rattle.vcpu_core.specs.Lanes.{IsTrapped, IsWanting, after_turn, seated}

-- the board, the lane, and what is answered
pub record AfterTurns : Type 0 where
  pub board : Seat
  pub lane : Lane
  pub answer : Turned

-- the windows by which a running lane steps: those of its vCPU's view
abbrev pub windows_for : Views → Seat → Lane → Windows
windows_for views b l = seated (view_named views (name_of b.state l.vcpu)) l.windows

abbrev pub verdict_for : Views → Seat → Lane → Verdict
verdict_for views b l = verdict_of b.rules b.state l.vcpu (windows_for views b l)

-- the board and the lane after one event
abbrev pub board_after : Views → Seat → Lane → Seat
board_after views b l = after_verdict b l.vcpu (verdict_for views b l)

abbrev pub lane_after : Views → Seat → Lane → Lane
lane_after views b l = after_turn b.state l.vcpu l (windows_for views b l) (verdict_for views b l)

-- the turn ends here with this answer, or goes on after a step
abbrev pub turns_by : Verdict → ℕ → Seat → Lane → AfterTurns → AfterTurns
turns_by Idle made b l later = record { board = b; lane = l; answer = record { steps = made; then = Over } }
turns_by (Needs n) made b l later = record { board = b; lane = l; answer = record { steps = made; then = Need } }
turns_by (Zeroes place) made b l later = record { board = b; lane = l; answer = record { steps = made; then = Zero } }
turns_by (Goes start) made b l later = later

-- at most so many more steps, after some that were made
unfoldable pub turns_from : Views → ℕ → ℕ → Seat → Lane → AfterTurns
turns_from views made zero b l = record { board = b; lane = l; answer = record { steps = made; then = Limit } }
turns_from views made (suc k) b l =
    turns_by (verdict_for views b l) made (board_after views b l) (lane_after views b l)
    (turns_from views (made + 1) k (board_after views b l) (lane_after views b l))

abbrev pub turns_of : Views → ℕ → Seat → Lane → AfterTurns
turns_of views limit b l = turns_from views 0 limit b l

-- why a turn ends at this verdict, if it does
abbrev pub turn_end_at : Verdict → Option Then
turn_end_at Idle = Some Over
turn_end_at (Needs n) = Some Need
turn_end_at (Zeroes place) = Some Zero
turn_end_at (Goes start) = None

-- what the event is to its turn
abbrev pub taken_by : Rules → Verdict → Taken
taken_by rules Idle = End Over
taken_by rules (Needs n) = End Need
taken_by rules (Zeroes place) = End Zero
taken_by rules (Goes start) = Step (is_same_place (place_of start) rules.hook)

-- the lane's phase after a turn: a need and a zero set it
abbrev pub IsPhaseAfter : Then → Phase → Type 0
IsPhaseAfter Limit phase = phase ≡ Running
IsPhaseAfter Need phase = IsWanting phase
IsPhaseAfter Zero phase = IsTrapped phase
IsPhaseAfter Over phase = phase ≡ Running
