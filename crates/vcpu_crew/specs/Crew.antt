-- What the workers of a crew are while they run, and what they have made.
use Rattle.std.specs.Prelude.{◌≡◌, ℕ, ◌<◌, false, Some, None, List, IsSome, length, slice_index_or}
use Rattle.guest_board.specs.Board.{Seat, may}
use Rattle.view_store.specs.Paged.{PagedView}
use Rattle.run_evidence.specs.Config.{Config, IsLawfulSchedule, full, rules_in}
use Rattle.run_evidence.specs.Evidence.{IsAllowed}
use Rattle.run_evidence.specs.Growing.{board_of, views_count, logs_of}
use Rattle.run_evidence.specs.Sound.{IsSoundView}
use Rattle.turn_table.specs.declared.known.Known.{Known}
use Rattle.turn_table.specs.declared.pass.Pass.{Pass}
use Rattle.turn_table.specs.declared.pass.Turns.{Turns}
use Rattle.turn_table.specs.Calls.{OwnsAll}
use Rattle.turn_table.specs.Numbers.{at}
use Rattle.turn_table.specs.Rule.{IsTruthfulPass, config_of}
use Rattle.turn_table.specs.Steps.{IsConsistent}
use Rattle.turn_table.specs.Passes.{IsPassOf, config_in, known}
use Rattle.vcpu_core.specs.declared.lane.Lane.{Lane}
use Rattle.vcpu_crew.specs.Round.{IsBetweenRounds}

-- after this schedule vCPU i may not step
abbrev pub HasStopped : Config → List ℕ → ℕ → Type 0
HasStopped c schedule i = may (rules_in c) (full c schedule) i ≡ false

-- a pass of this table and the lane of vCPU i, between two rounds
pub record IsWorker (t : Turns) (i : ℕ) (w : Pass × Lane) : Type 0 where
  pub pass : IsPassOf t w.0
  pub between : IsBetweenRounds (config_in t) (known w.0) w.1
  pub vcpu : w.1.vcpu ≡ i

abbrev pub AreWorkers : Turns → List (Pass × Lane) → Type 0
AreWorkers t ws = (i : ℕ) (d : Pass × Lane) → i < length ws → IsWorker t i (slice_index_or ws i d)

-- the pass owns vCPU i, which may not step after what the pass has seen
pub record IsDoneWith (c : Config) (v : Known) (i : ℕ) : Type 0 where
  pub made : ℕ
  pub owned : at v.counts i ≡ Some made
  pub stopped : HasStopped c v.seen i

-- the pass holds nothing and is done with vCPU i
pub record HasRun (c : Config) (i : ℕ) (v : Known) : Type 0 where
  pub config : config_of v ≡ c
  pub free : v.holds ≡ None
  pub consistent : IsConsistent v
  pub done : IsDoneWith c v i

-- the pass holds nothing and is done with the vCPUs below n
pub record HasRunAll (c : Config) (n : ℕ) (v : Known) : Type 0 where
  pub config : config_of v ≡ c
  pub free : v.holds ≡ None
  pub consistent : IsConsistent v
  pub done : (i : ℕ) → i < n → IsDoneWith c v i

-- a worker of vCPU i after its last round
pub record IsFinished (t : Turns) (i : ℕ) (w : Pass × Lane) : Type 0 where
  pub pass : IsPassOf t w.0
  pub run : HasRun (config_in t) i (known w.0)

abbrev pub AreFinished : Turns → List (Pass × Lane) → Type 0
AreFinished t ws = (i : ℕ) (d : Pass × Lane) → i < length ws → IsFinished t i (slice_index_or ws i d)

-- The board is that of a lawful schedule, whose run has ended. The views are those of the run, in order: each is over the
-- text, with its base, and its log is evidence by the schedule. The logs allow each fetch. One pass owns every vCPU, each
-- with as many steps as the schedule has of it.
pub record IsWholeRun (c : Config) (b : Seat) (ps : List PagedView) : Type 0 where
  pub board : b ≡ board_of c b.schedule
  pub ended : IsSome b.state.end
  pub lawful : IsLawfulSchedule c b.schedule
  pub numbered : length ps ≡ views_count c
  pub each : (v : ℕ) (d : PagedView) → v < length ps → IsSoundView c b.schedule v (slice_index_or ps v d)
  pub allowed : IsAllowed c (logs_of ps) b.schedule
  pub pass : Known
  pub owns : OwnsAll c.setup.vcpus pass
  pub counted : IsTruthfulPass c b.schedule (logs_of ps) pass
