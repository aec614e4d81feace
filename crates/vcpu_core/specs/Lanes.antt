-- What an event does to the lane of a vCPU, by the lane's phase.
-- The rule: a lane holds at most four windows of its view, of which a fifth replaces the oldest. A step keeps them, a
-- mend drops them, and clears the range of the group that it restored or found present. Where the vCPU's view is
-- another one, windows and cleared range are dropped.
use Rattle.std.specs.Prelude.{ℕ, ◌==◌, if◌then◌else◌, Some, None, List, [], ◌∷◌, take}
use Rattle.function_table.specs.Groups.{Groups, range_of}
use Rattle.chain_log.specs.declared.entry.Trapped.{Trapped}
use Rattle.recovery.specs.Recovery.{looked_of}
use Rattle.view_store.specs.declared.view.Patched.{Patched}
use Rattle.view_store.specs.declared.view.Patched.TheVariants.{Recovered, WasPresent}
use Rattle.view_store.specs.Paged.{PagedView, is_present, patched, window_of}
use Rattle.guest_board.specs.declared.seen.Windows.{Windows}
use Rattle.guest_board.specs.declared.seen.Verdict.{Verdict}
use Rattle.guest_board.specs.declared.seen.Verdict.TheVariants.{Idle, Needs, Zeroes, Goes}
use Rattle.guest_board.specs.Board.{State}
use Rattle.guest_board.specs.Seen.{trapped_at}
use Rattle.vcpu_core.specs.declared.lane.Lane.{Lane}
use Rattle.vcpu_core.specs.declared.lane.Phase.{Phase}
use Rattle.vcpu_core.specs.declared.lane.Phase.TheVariants as phase
use Rattle.vcpu_core.specs.declared.lane.Went.{Went}
use Rattle.vcpu_core.specs.declared.lane.Went.TheVariants as went

abbrev pub blank_windows : ℕ → Windows
blank_windows v = record { view = v; held = record { items = [] }; cleared = None }

-- the windows of a vCPU whose view is v: dropped where they are of another view
abbrev pub seated : ℕ → Windows → Windows
seated v w = if w.view == v then w else blank_windows v

-- one more in front, and the three newest of the others
abbrev pub with_newest : {X : Type 0} → List X → X → List X
with_newest held x = x ∷ take 3 held

abbrev pub in_phase : Lane → Windows → Phase → Lane
in_phase l w p = record { vcpu = l.vcpu; windows = w; phase = p }

-- a running lane after an event with these windows
abbrev pub after_turn : State → ℕ → Lane → Windows → Verdict → Lane
after_turn s i l w Idle = l
after_turn s i l w (Needs n) = in_phase l w (phase.Wants n)
after_turn s i l w (Zeroes place) = in_phase l w (phase.Trapped (trapped_at s i w.view place))
after_turn s i l w (Goes start) = in_phase l w phase.Running

abbrev pub went_by : Verdict → Went
went_by Idle = went.Over
went_by (Needs n) = went.Erased
went_by (Zeroes place) = went.Erased
went_by (Goes start) = went.Stepped

-- with the window of line n as well
abbrev pub windows_with_line : PagedView → ℕ → Windows → Windows
windows_with_line p n w = record { view = w.view; held = record { items = with_newest w.held.items (window_of p n) }; cleared = w.cleared }

abbrev pub after_fill : PagedView → ℕ → Lane → Lane
after_fill p n l = in_phase l (windows_with_line p n l.windows) phase.Running

abbrev pub after_look : Groups → Trapped → Lane → Lane
after_look groups t l = in_phase l l.windows (phase.Looked (looked_of groups t))

-- with no window, and the range of this group cleared
abbrev pub mended : Groups → ℕ → Windows → Windows
mended groups g w = record { view = w.view; held = record { items = [] }; cleared = Some (range_of groups g) }

abbrev pub after_mend : Groups → ℕ → Lane → Lane
after_mend groups g l = in_phase l (mended groups g l.windows) phase.Running

-- the rows of a lane that does not run, by its phase
abbrev pub fill_row : PagedView → Lane → Phase → Lane
fill_row p l phase.Running = l
fill_row p l (phase.Wants n) = after_fill p n l
fill_row p l (phase.Trapped t) = l
fill_row p l (phase.Looked k) = l

abbrev pub look_row : Groups → Lane → Phase → Lane
look_row groups l phase.Running = l
look_row groups l (phase.Wants n) = l
look_row groups l (phase.Trapped t) = after_look groups t l
look_row groups l (phase.Looked k) = l

abbrev pub mend_row : Groups → Lane → Phase → Lane
mend_row groups l phase.Running = l
mend_row groups l (phase.Wants n) = l
mend_row groups l (phase.Trapped t) = l
mend_row groups l (phase.Looked k) = after_mend groups k.group l

-- the view after a mend: with the entry where its group was absent
abbrev pub mend_view : PagedView → Phase → PagedView
mend_view p phase.Running = p
mend_view p (phase.Wants n) = p
mend_view p (phase.Trapped t) = p
mend_view p (phase.Looked k) = patched p k.entry

abbrev pub mend_answer : PagedView → Phase → Patched
mend_answer p phase.Running = WasPresent
mend_answer p (phase.Wants n) = WasPresent
mend_answer p (phase.Trapped t) = WasPresent
mend_answer p (phase.Looked k) = if is_present p.base p.log k.entry.group then WasPresent else Recovered

-- which row a phase asks for
abbrev pub IsWanting : Phase → Type 0
IsWanting phase.Running = ⊥
IsWanting (phase.Wants n) = Unit {0}
IsWanting (phase.Trapped t) = ⊥
IsWanting (phase.Looked k) = ⊥

abbrev pub IsTrapped : Phase → Type 0
IsTrapped phase.Running = ⊥
IsTrapped (phase.Wants n) = ⊥
IsTrapped (phase.Trapped t) = Unit {0}
IsTrapped (phase.Looked k) = ⊥

abbrev pub IsLooked : Phase → Type 0
IsLooked phase.Running = ⊥
IsLooked (phase.Wants n) = ⊥
IsLooked (phase.Trapped t) = ⊥
IsLooked (phase.Looked k) = Unit {0}
