-- How many events of a vCPU may still come before its next step: at most nine, and one less after each.
-- These are the measures by which a run ends: of one vCPU, and of all.
use Rattle.std.specs.Prelude.{ℕ, ◌+◌, ◌-◌, ◌*◌, ◌==◌, Bool, if◌then◌else◌, Option, Some, None, List, [], length, map}
use Rattle.std.specs.List.{list_any, range_with_len, sum_by}
use Rattle.fc_numbers.specs.declared.places.Span.{Span}
use Rattle.fc_numbers.specs.declared.window.Window.{Window}
use Rattle.function_table.specs.Groups.{Groups, group_at, range_of}
use Rattle.guest_board.specs.declared.seen.Windows.{Windows}
use Rattle.guest_board.specs.Board.{made_of, next_of}
use Rattle.guest_board.specs.Seen.{line_no, is_cleared}
use Rattle.vcpu_core.specs.declared.lane.Lane.{Lane}
use Rattle.vcpu_core.specs.declared.lane.Phase.{Phase}
use Rattle.vcpu_core.specs.declared.lane.Phase.TheVariants.{Running, Wants, Trapped, Looked}
use Rattle.vcpu_core.specs.Lanes.{with_newest}
use Rattle.vcpu_core.specs.World.{World, lane_of, windows_of}

-- the lines that windows are held of
abbrev pub lines_held : List Window → List ℕ
lines_held held = map (λ w. w.line) held

abbrev pub has_line : List ℕ → ℕ → Bool
has_line lines line = list_any (λ n. n == line) lines

-- By the line of the place that is fetched next. Where it is held: none where the place is cleared, else trap, look up,
-- mend, need, fill. Where it is not: need and fill before that.
abbrev pub line_waits : List Span → List ℕ → Option Span → Option ℕ → ℕ
line_waits text lines cleared None = 0
line_waits text lines cleared (Some p) =
    if has_line lines (line_no text p) then (if is_cleared cleared p then 0 else 5) else (if is_cleared cleared p then 2 else 7)

abbrev pub window_waits : List Span → Windows → Option ℕ → ℕ
window_waits text w next = line_waits text (lines_held w.held.items) w.cleared next

abbrev pub phase_waits : Groups → Lane → Windows → Option ℕ → Phase → ℕ
phase_waits groups l w next Running = window_waits groups.text w next
phase_waits groups l w next (Wants n) = 1 + line_waits groups.text (with_newest (lines_held l.windows.held.items) n) l.windows.cleared next
phase_waits groups l w next (Trapped t) = 2 + line_waits groups.text [] (Some (range_of groups (group_at groups t.pc))) next
phase_waits groups l w next (Looked k) = 1 + line_waits groups.text [] (Some (range_of groups k.group)) next

unfoldable pub waits_of : World → ℕ → Lane → ℕ
waits_of w i l = phase_waits w.groups l (windows_of w i l) (next_of w.board.state i) l.phase

-- what is left of vCPU i: ten events for each step, and those before the next step
unfoldable pub left_of : World → ℕ → ℕ
left_of w i = 10 * (w.board.rules.steps - made_of w.board.state i) + waits_of w i (lane_of w i)

-- the steps that are left to all vCPUs
abbrev pub steps_left : World → ℕ
steps_left w = sum_by (λ i. w.board.rules.steps - made_of w.board.state i) (range_with_len 0 (length w.lanes))

-- the events that may come before the next step of each
abbrev pub waits_left : World → ℕ
waits_left w = sum_by (λ i. waits_of w i (lane_of w i)) (range_with_len 0 (length w.lanes))

-- what is left of all vCPUs: ten events of each for each step that is left, and those before the next steps
unfoldable pub all_left : World → ℕ
all_left w = 10 * length w.lanes * steps_left w + waits_left w
