-- The view machine: a board, the views, and a lane for each vCPU, and what one event does to them.
-- The rule: an event of a vCPU that may step goes by its lane's phase; a step, a need, a trap, a fill, a lookup or a mend.
use Rattle.std.specs.Prelude.{◌≡◌, ℕ, ◌+◌, ◌<◌, ◌≤◌, if◌then◌else◌, List, [], ◌∷◌, length, slice_index_or, slice_set}
use Rattle.std.proofs.Common.{zero, suc}
use Rattle.guest_ram.specs.Ram.{Ram}
use Rattle.function_table.specs.Groups.{Groups, IsGroups}
use Rattle.view_file.specs.declared.views.Views.{Views}
use Rattle.view_file.specs.declared.views.TheConstants.{APPS_MOST}
use Rattle.view_file.specs.Named.{view_named}
use Rattle.view_store.specs.Paged.{PagedView, patched}
use Rattle.guest_board.specs.declared.seen.Windows.{Windows}
use Rattle.guest_board.specs.declared.seen.Verdict.{Verdict}
use Rattle.guest_board.specs.Board.{Seat, may, name_of}
use Rattle.guest_board.specs.Seen.{verdict_of, after_verdict}
use Rattle.vcpu_core.specs.declared.lane.Lane.{Lane}
use Rattle.vcpu_core.specs.declared.lane.Phase.{Phase}
use Rattle.vcpu_core.specs.declared.lane.Phase.TheVariants.{Running, Wants, Trapped, Looked}
use Rattle.vcpu_core.specs.declared.lane.Went.{Went}
use Rattle.vcpu_core.specs.declared.lane.Went.TheVariants.{Over, Stepped, Erased}
use Rattle.vcpu_core.specs.Lanes.{blank_windows, seated, after_turn, after_fill, after_look, after_mend, went_by}
use Rattle.vcpu_core.specs.Placed.{IsPlacedPhase}
use Rattle.vcpu_core.specs.Truthful.{IsOfView}

-- the profile's views and the groups of the text, which stay; the board, the views and the lanes, which change
pub record World : Type 0 where
  pub profile : Views
  pub groups : Groups
  pub board : Seat
  pub paged_views : List PagedView
  pub lanes : List Lane

abbrev pub blank_groups : Groups
blank_groups = record { text = []; functions = []; starts = [] }

abbrev pub blank_paged : PagedView
blank_paged = record { number = 0; text = []; groups = blank_groups; base = []; log = [] }

abbrev pub blank_lane : ℕ → Lane
blank_lane i = record { vcpu = i; windows = blank_windows 0; phase = Running }

abbrev pub paged_in : List PagedView → ℕ → PagedView
paged_in paged_views v = slice_index_or paged_views v blank_paged

abbrev pub lane_of : World → ℕ → Lane
lane_of w i = slice_index_or w.lanes i (blank_lane i)

-- the view of a vCPU: that of its app name
abbrev pub view_of : World → ℕ → ℕ
view_of w i = view_named w.profile (name_of w.board.state i)

-- the windows by which a running lane steps
abbrev pub windows_of : World → ℕ → Lane → Windows
windows_of w i l = seated (view_of w i) l.windows

abbrev pub verdict_in : World → ℕ → Windows → Verdict
verdict_in w i windows = verdict_of w.board.rules w.board.state i windows

abbrev pub with_lane : World → ℕ → Lane → World
with_lane w i l = record w { lanes = slice_set w.lanes i l }

abbrev pub after_event : World → ℕ → Lane → Windows → Verdict → World
after_event w i l windows verdict = record w {
  board = after_verdict w.board i verdict;
  lanes = slice_set w.lanes i (after_turn w.board.state i l windows verdict);
}

-- one event of vCPU i, by the phase of its lane
unfoldable pub gone : World → ℕ → Lane → Phase → World
gone w i l Running = after_event w i l (windows_of w i l) (verdict_in w i (windows_of w i l))
gone w i l (Wants n) = with_lane w i (after_fill (paged_in w.paged_views l.windows.view) n l)
gone w i l (Trapped trap) = with_lane w i (after_look w.groups trap l)
gone w i l (Looked looked) = record w {
  paged_views = slice_set w.paged_views l.windows.view (patched (paged_in w.paged_views l.windows.view) looked.entry);
  lanes = slice_set w.lanes i (after_mend w.groups looked.group l);
}

unfoldable pub went_in : World → ℕ → Lane → Phase → Went
went_in w i l Running = went_by (verdict_in w i (windows_of w i l))
went_in w i l (Wants n) = Erased
went_in w i l (Trapped trap) = Erased
went_in w i l (Looked looked) = Erased

-- the world after `go` of vCPU i, and what the event was
unfoldable pub go_of : World → ℕ → World
go_of w i = if may w.board.rules w.board.state i then gone w i (lane_of w i) (lane_of w i).phase else w

unfoldable pub went_of : World → ℕ → Went
went_of w i = if may w.board.rules w.board.state i then went_in w i (lane_of w i) (lane_of w i).phase else Over

-- the world after a list of go's
abbrev pub go_all : World → List ℕ → World
go_all w [] = w
go_all w (i ∷ is) = go_all (go_of w i) is

-- the events behind one that leaves the lane in this phase: none behind a trap
abbrev pub row_past : Phase → ℕ → ℕ
row_past Running later = later
row_past (Wants n) later = later
row_past (Trapped trap) later = 0
row_past (Looked looked) later = 0

-- how many events a row of vCPU i has, of at most so many: it ends where the vCPU may not step, and at a trap of its lane
unfoldable pub row_count : World → ℕ → ℕ → ℕ
row_count w i zero = 0
row_count w i (suc n) = if may w.board.rules w.board.state i then 1 + row_past (lane_of (go_of w i) i).phase (row_count (go_of w i) i n) else 0

-- a lane that runs has a row; another has one event
abbrev pub row_limit : Phase → ℕ → ℕ
row_limit Running limit = limit
row_limit (Wants n) limit = 1
row_limit (Trapped trap) limit = 1
row_limit (Looked looked) limit = 1

-- the members of the list that stepped
abbrev pub kept_if : Went → ℕ → List ℕ → List ℕ
kept_if Over i is = is
kept_if Stepped i is = i ∷ is
kept_if Erased i is = is

abbrev pub erased : World → List ℕ → List ℕ
erased w [] = []
erased w (i ∷ is) = kept_if (went_of w i) i (erased (go_of w i) is)

pub record IsLaneReady (w : World) (i : ℕ) (l : Lane) : Type 0 where
  pub number : l.vcpu ≡ i
  pub view : l.windows.view < length w.paged_views
  pub placed : IsPlacedPhase w.groups l l.phase
  pub has_view : IsOfView (view_of w i) l l.phase

pub record IsPagedReady (w : World) (v : ℕ) (p : PagedView) : Type 0 where
  pub number : p.number ≡ v
  pub groups : p.groups ≡ w.groups

-- board, views and lanes speak of one text, and what each lane keeps lies in it
pub record IsReady (w : World) : Type 0 where
  pub groups : IsGroups w.groups
  pub text : w.board.state.ram.text ≡ w.groups.text
  pub apps : length w.profile.apps ≤ APPS_MOST
  pub views : length w.paged_views ≡ length w.profile.apps + 1
  pub lanes : length w.lanes ≡ length w.board.state.slots
  pub paged_views : (v : ℕ) → v < length w.paged_views → IsPagedReady w v (paged_in w.paged_views v)
  pub each : (i : ℕ) → i < length w.lanes → IsLaneReady w i (lane_of w i)

-- the views beside a memory: one for each view of the profile, in order, each of the memory's text
pub record AreViewsOf (memory : Ram) (profile : Views) (views : List PagedView) : Type 0 where
  pub count : length views ≡ length profile.apps + 1
  pub number : (v : ℕ) → v < length views → (paged_in views v).number ≡ v
  pub text : (v : ℕ) → v < length views → (paged_in views v).groups.text ≡ memory.text
