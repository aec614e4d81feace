-- When a lane is truthful for a configuration, a schedule and the logs beside it.
-- The rule: each window is a line of the mask of the view's base and a front part of its log. The cleared range is that
-- of a group which the view has, and which each of those front parts with the base has, too. What a phase keeps is what
-- a log entry says, but that its group may be in the base. But for the running phase the lane's view is its vCPU's.
use Rattle.std.specs.Prelude.{◌≡◌, ℕ, ◌*◌, ◌<◌, ◌≤◌, true, Option, Some, None, List, [], ◌∷◌, length}
use Rattle.fc_numbers.specs.declared.places.Span.{Span}
use Rattle.fc_numbers.specs.declared.window.Window.{Window}
use Rattle.fc_numbers.specs.Spans.{text_size}
use Rattle.function_table.specs.Groups.{group_at, groups_count, in_groups_text, range_of}
use Rattle.chain_log.specs.declared.entry.LogEntry.{LogEntry}
use Rattle.view_store.specs.Paged.{PagedView, is_present, window_of}
use Rattle.guest_board.specs.declared.seen.Windows.{Windows}
use Rattle.guest_board.specs.Board.{may, next_of}
use Rattle.run_evidence.specs.Config.{Config, image_groups, rules_in, full, full_at, view_in}
use Rattle.run_evidence.specs.Evidence.{chain_in, log_in}
use Rattle.run_evidence.specs.Growing.{Begins, paged_at}
use Rattle.vcpu_core.specs.declared.lane.Lane.{Lane}
use Rattle.vcpu_core.specs.declared.lane.Phase.{Phase}
use Rattle.vcpu_core.specs.declared.lane.Phase.TheVariants.{Running, Wants, Trapped, Looked}

-- the range is that of a group which this view has
pub record IsRangeOfPresent (p : PagedView) (s : Span) : Type 0 where
  pub group : ℕ
  pub range : s ≡ range_of p.groups group
  pub within : group < groups_count p.groups
  pub present : is_present p.base p.log group ≡ true

abbrev pub IsClearedBy : PagedView → Option Span → Type 0
IsClearedBy p None = Unit {0}
IsClearedBy p (Some s) = IsRangeOfPresent p s

-- a window was taken of view v when its log was this front part, after the cleared range became the lane's
pub record IsTaken (c : Config) (v : ℕ) (log : List LogEntry) (cleared : Option Span) (w : Window) : Type 0 where
  pub seen : List LogEntry
  pub front : Begins seen log
  pub is : w ≡ window_of (paged_at c v seen) w.line
  pub clear : IsClearedBy (paged_at c v seen) cleared

abbrev pub AllTaken : Config → ℕ → List LogEntry → Option Span → List Window → Type 0
AllTaken c v log cleared [] = Unit {0}
AllTaken c v log cleared (w ∷ ws) = IsTaken c v log cleared w × AllTaken c v log cleared ws

-- at its clock the vCPU may step, its next fetch is of this place of text, its view this one, and its call chain this one
pub record IsTrapOf (c : Config) (schedule : List ℕ) (view vcpu at pc : ℕ) (chain : List ℕ) : Type 0 where
  pub early : at ≤ length schedule
  pub may_step : may (rules_in c) (full_at c schedule at) vcpu ≡ true
  pub next : next_of (full_at c schedule at) vcpu ≡ Some pc
  pub inside : in_groups_text (image_groups c) pc ≡ true
  pub view_is : view_in c (full_at c schedule at) vcpu ≡ view
  pub chain_is : chain ≡ chain_in (full_at c schedule at) vcpu

-- what a lane keeps of a trap or an entry: it is of the lane's vCPU and view, and true
pub record IsKeptTrap (c : Config) (schedule : List ℕ) (l : Lane) (view vcpu at pc : ℕ) (chain : List ℕ) : Type 0 where
  pub vcpu_is : vcpu ≡ l.vcpu
  pub of_view : view ≡ l.windows.view
  pub trap : IsTrapOf c schedule view vcpu at pc chain

abbrev pub IsTruePhase : Config → List ℕ → Lane → Phase → Type 0
IsTruePhase c schedule l Running = Unit {0}
IsTruePhase c schedule l (Wants n) = 64 * n < text_size (image_groups c).text
IsTruePhase c schedule l (Trapped t) = IsKeptTrap c schedule l t.view t.vcpu t.at t.pc t.chain.items
IsTruePhase c schedule l (Looked k) = IsKeptTrap c schedule l k.entry.view k.entry.vcpu k.entry.at k.entry.pc k.entry.chain.items
    × (k.group ≡ k.entry.group) × (k.entry.group ≡ group_at (image_groups c) k.entry.pc)

-- in every phase but the running one the lane's view is this one
abbrev pub IsOfView : ℕ → Lane → Phase → Type 0
IsOfView v l Running = Unit {0}
IsOfView v l (Wants n) = l.windows.view ≡ v
IsOfView v l (Trapped t) = l.windows.view ≡ v
IsOfView v l (Looked k) = l.windows.view ≡ v

-- what the windows are, where the view's log is this
pub record AreTruthful (c : Config) (log : List LogEntry) (w : Windows) : Type 0 where
  pub held : AllTaken c w.view log w.cleared w.held.items
  pub cleared : IsClearedBy (paged_at c w.view log) w.cleared

pub record IsTruthful (c : Config) (schedule : List ℕ) (logs : List (List LogEntry)) (l : Lane) : Type 0 where
  pub windows : AreTruthful c (log_in logs l.windows.view) l.windows
  pub phase : IsTruePhase c schedule l l.phase
  pub view : IsOfView (view_in c (full c schedule) l.vcpu) l l.phase
