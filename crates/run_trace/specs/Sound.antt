-- The trace of a run, and what makes a trace sound: evidence of a run that any reader can check by the full kernel.
-- The rule: the schedule is one of steps that exist, and the full run of it has ended; the trace tells that run; each
-- fetch of text under a view is of code in the view's base, or logged; each entry names missing code about to be fetched;
-- and no view logs a group twice.
use Rattle.std.specs.Prelude.{◌≡◌, ℕ, ◌+◌, ◌<◌, ◌==◌, ◌&&◌, false, Some, List, [], ◌∷◌, length, map, slice_index, slice_index_or}
use Rattle.std.specs.List.{filter, flat_map, list_any, range_with_len}
use Rattle.chain_log.specs.declared.entry.LogEntry.{LogEntry}
use Rattle.trace_file.specs.Trace.{Told}
use Rattle.trace_file.specs.Lawful.{IsLawfulTrace as IsLawfulTrace}
use Rattle.view_store.specs.Paged.{PagedView}
use Rattle.rv_step.specs.declared.causes.TheConstants.{ILLEGAL_INSTRUCTION}
use Rattle.guest_board.specs.Board.{Seat, vcpu_of}
use Rattle.guest_board.specs.Fetch.{half_at}
use Rattle.guest_board.specs.Made.{in_trap}
use Rattle.run_evidence.specs.Config.{Config, IsConfig, fetched_at, full, full_at, IsLawfulSchedule}
use Rattle.run_evidence.specs.Evidence.{AllJustified, IsAllowed, log_in}
use Rattle.run_evidence.specs.Growing.{paged_at, views_count}
use Rattle.run_evidence.specs.Sound.{IsSoundView}
use Rattle.run_trace.specs.Told.{vcpu_states, memory_digest, pages_digest, IsToldBy, IsInRange}

-- the numbers of the views
abbrev pub view_numbers : Config → List ℕ
view_numbers c = range_with_len 0 (views_count c)

-- the trace tells the full run of this schedule, which has ended, and these logs, which stand by view
pub record IsTraceOf (c : Config) (steps : List ℕ) (logs : List (List LogEntry)) (t : Told) : Type 0 where
  pub vcpus : t.vcpus ≡ c.setup.vcpus
  pub schedule : t.schedule ≡ steps
  pub entries : t.entries ≡ flat_map (log_in logs) (view_numbers c)
  pub ended : (full c steps).end ≡ Some t.end
  pub states : t.states ≡ vcpu_states (full c steps)
  pub memory : t.memory ≡ memory_digest (full c steps).ram
  pub pages : t.pages ≡ map (λ v. pages_digest (paged_at c v (log_in logs v))) (view_numbers c)

-- the entries for view v
abbrev pub entries_for : List LogEntry → ℕ → List LogEntry
entries_for entries v = filter (λ e. e.view == v) entries

-- the logs that a trace tells, by view
abbrev pub logs_told : Config → Told → List (List LogEntry)
logs_told c t = map (entries_for t.entries) (view_numbers c)

-- no two entries are for one view and one group
abbrev pub NoneTwice : List LogEntry → Type 0
NoneTwice [] = Unit {0}
NoneTwice (e ∷ es) = (list_any (λ x. (x.view == e.view) && (x.group == e.group)) es ≡ false) × NoneTwice es

pub record IsSoundTrace (c : Config) (t : Told) : Type 0 where
  pub lawful : IsLawfulSchedule c t.schedule
  pub told : IsTraceOf c t.schedule (logs_told c t) t
  pub allowed : IsAllowed c (logs_told c t) t.schedule
  pub justified : AllJustified c t.schedule t.entries
  pub once : NoneTwice t.entries

-- the board is the full run of its schedule, each of whose steps exists; the views are those of the configuration, in
-- order; each fetch was allowed, and each entry is evidence
pub record IsRun (c : Config) (board : Seat) (views : List PagedView) : Type 0 where
  pub config : IsConfig c
  pub state : board.state ≡ full c board.schedule
  pub lawful : IsLawfulSchedule c board.schedule
  pub numbered : length views ≡ views_count c
  pub each : (v : ℕ) (d : PagedView) → v < length views → IsSoundView c board.schedule v (slice_index_or views v d)
  pub allowed : IsAllowed c (map (λ p. p.log) views) board.schedule

-- the trace of a run is sound
abbrev pub RunsHaveSoundTraces : Type 0
RunsHaveSoundTraces = (c : Config) (board : Seat) (views : List PagedView) (t : Told) → IsRun c board views → IsToldBy board views t → IsSoundTrace c t

-- and has a text
abbrev pub TracesOfRunsAreLawful : Type 0
TracesOfRunsAreLawful = (c : Config) (board : Seat) (views : List PagedView) (t : Told) → IsRun c board views → IsToldBy board views t → IsInRange t
    → IsLawfulTrace t

-- A zero halfword of text is an illegal instruction of the guest's own, whatever a view lacks: a step of a lawful schedule
-- that fetches one is the trap of cause 2 with value 0.
abbrev pub ZerosReachTheGuest : Type 0
ZerosReachTheGuest = (c : Config) (schedule : List ℕ) (t p : ℕ) → IsLawfulSchedule c schedule → t < length schedule → fetched_at c schedule t ≡ Some p
    → half_at (full_at c schedule t).ram p ≡ 0
    → vcpu_of (full_at c schedule (t + 1)) (slice_index schedule t) ≡ in_trap (vcpu_of (full_at c schedule t) (slice_index schedule t)) ILLEGAL_INSTRUCTION 0
