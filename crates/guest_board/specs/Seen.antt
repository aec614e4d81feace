-- A step by what a lane holds of a view: the step, a need of a line, or a trap on a zero halfword.
-- The rule: a fetch in text reads its halfwords from the window of its line, of several the first.
use Rattle.std.specs.Prelude.{ℕ, ◌+◌, ◌/◌, ◌%◌, ◌==◌, ◌&&◌, Bool, false, not, nat_eq, if◌then◌else◌, Option, Some, None, List, slice_index}
use Rattle.std.specs.List.{find}
use Rattle.fc_numbers.specs.declared.window.Window.{Window}
use Rattle.fc_numbers.specs.declared.window.TheConstants.{LINE}
use Rattle.fc_numbers.specs.declared.places.Span.{Span}
use Rattle.fc_numbers.specs.Spans.{offset_in, holds}
use Rattle.chain_log.specs.declared.entry.Trapped.{Trapped}
use Rattle.chain_log.specs.Chain.{chain_of}
use Rattle.guest_board.specs.declared.rules.Rules.{Rules}
use Rattle.guest_board.specs.declared.fetch.Fetched.{Fetched}
use Rattle.guest_board.specs.declared.step.StepStart.{StepStart}
use Rattle.guest_board.specs.declared.step.StepStart.TheVariants.{Interrupt, Fetches}
use Rattle.guest_board.specs.declared.seen.Windows.{Windows}
use Rattle.guest_board.specs.declared.seen.Verdict.{Verdict}
use Rattle.guest_board.specs.declared.seen.Verdict.TheVariants.{Idle, Needs, Zeroes, Goes}
use Rattle.guest_board.specs.declared.seen.Seen.{Seen}
use Rattle.guest_board.specs.declared.seen.Seen.TheVariants as seen
use Rattle.guest_board.specs.Fetch.{text_place, with_halves}
use Rattle.guest_board.specs.Step.{place_of}
use Rattle.guest_board.specs.Board.{State, Seat, is_same_place, vcpu_of, may, next_start, stepped_by, moved}

-- the number of the line of text that holds a place
abbrev pub line_no : List Span → ℕ → ℕ
line_no text place = offset_in text place / LINE

-- the number of the halfword at a place in its line
abbrev pub half_in_line : List Span → ℕ → ℕ
half_in_line text place = offset_in text place / 2 % 32

abbrev pub is_cleared : Option Span → ℕ → Bool
is_cleared None place = false
is_cleared (Some span) place = holds span place

abbrev pub window_at : ℕ → List Window → Option Window
window_at line held = find (λ w. w.line == line) held

-- a zero outside the cleared range traps, anything else is the instruction
abbrev pub by_halves : Option Span → Fetched → ℕ → ℕ → ℕ → Verdict
by_halves cleared got place first second =
    if nat_eq first 0 && not (is_cleared cleared place) then Zeroes place
    else Goes (Fetches (with_halves got first second))

abbrev pub by_window : List Span → Option Span → Fetched → ℕ → Option Window → Verdict
by_window text cleared got place None = Needs (line_no text place)
by_window text cleared got place (Some w) =
    by_halves cleared got place (slice_index w.halves (half_in_line text place)) (slice_index w.halves (half_in_line text place + 1))

abbrev pub by_place : List Span → Windows → Fetched → Option ℕ → Verdict
by_place text w got None = Goes (Fetches got)
by_place text w got (Some place) = by_window text w.cleared got place (window_at (line_no text place) w.held.items)

abbrev pub by_start : List Span → Windows → StepStart → Verdict
by_start text w (Interrupt code) = Goes (Interrupt code)
by_start text w (Fetches got) = by_place text w got (text_place got)

-- what vCPU i does by these windows
unfoldable pub verdict_of : Rules → State → ℕ → Windows → Verdict
verdict_of rules s i w = if may rules s i then by_start s.ram.text w (next_start s i) else Idle

-- the board after a step over windows
unfoldable pub after_verdict : Seat → ℕ → Verdict → Seat
after_verdict b i Idle = b
after_verdict b i (Needs line) = b
after_verdict b i (Zeroes place) = b
after_verdict b i (Goes start) = moved b i (stepped_by b.rules b.state i start)

-- the trap of vCPU i on the zero at a place, with the call chain of this moment
abbrev pub trapped_at : State → ℕ → ℕ → ℕ → Trapped
trapped_at s i view place = record {
  view = view;
  vcpu = i;
  at = s.clock;
  pc = place;
  chain = record { items = chain_of s.ram (vcpu_of s i).csr (vcpu_of s i).mode (vcpu_of s i).regs };
}

-- of a step it is said whether it fetches the hook's place
abbrev pub seen_by : Rules → Verdict → Seen
seen_by rules Idle = seen.Over
seen_by rules (Needs line) = seen.Need line
seen_by rules (Zeroes place) = seen.Zero place
seen_by rules (Goes start) = seen.Stepped (is_same_place (place_of start) rules.hook)
