-- What the logs of one vCPU are: once its run has ended, and before.
-- The rule: the log of each view is the misses under that view, in order. Before the end one entry more may stand, of the
-- fetch that comes next.
use Rattle.std.specs.Prelude.{◌≡◌, ◌⊎◌, ℕ, ◌<◌, IsSome, List, [], ◌∷◌, ◌++◌, length}
use Rattle.chain_log.specs.declared.entry.LogEntry.{LogEntry}
use Rattle.view_file.specs.Named.{view_named}
use Rattle.run_evidence.specs.Config.{Config}
use Rattle.run_evidence.specs.Misses.{misses, misses_under, steps_of}
use Rattle.vcpu_core.specs.World.{World, paged_in}

abbrev pub HasEnded : World → Type 0
HasEnded w = IsSome w.board.state.end

-- each log has an entry for every miss under its view, in order, and no other
abbrev pub EachLogsItsMisses : Config → World → List ℕ → Type 0
EachLogsItsMisses c w schedule = (v : ℕ) → v < length w.paged_views → steps_of (paged_in w.paged_views v).log ≡ misses_under c schedule v

-- the view of the setup's name, which each vCPU has at the start
abbrev pub first_view : Config → ℕ
first_view c = view_named c.views c.setup.start

-- the log of the first view has every miss of the run
pub record FirstLogsAllMisses (c : Config) (w : World) (schedule : List ℕ) : Type 0 where
  pub within : first_view c < length w.paged_views
  pub all : steps_of (paged_in w.paged_views (first_view c)).log ≡ misses c schedule

-- the log has an entry for every miss under the view, in order, and no other; or one more of this moment, which is no step yet
abbrev pub LogsMissesSoFar : Config → List LogEntry → List ℕ → ℕ → Type 0
LogsMissesSoFar c log schedule v = (steps_of log ≡ misses_under c schedule v) ⊎ (steps_of log ≡ misses_under c schedule v ++ length schedule ∷ [])

abbrev pub EachLogsMissesSoFar : Config → World → List ℕ → Type 0
EachLogsMissesSoFar c w schedule = (v : ℕ) → v < length w.paged_views → LogsMissesSoFar c (paged_in w.paged_views v).log schedule v
