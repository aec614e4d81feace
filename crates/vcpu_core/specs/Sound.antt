-- What is true of the view machine after any list of events.
use Rattle.std.specs.Prelude.{◌≡◌, ℕ, ◌<◌, List, length}
use Rattle.run_evidence.specs.Config.{Config, full, IsLawfulSchedule}
use Rattle.run_evidence.specs.Evidence.{IsAllowed}
use Rattle.run_evidence.specs.Growing.{views_count, logs_of}
use Rattle.run_evidence.specs.Sound.{IsSoundView}
use Rattle.vcpu_core.specs.Truthful.{IsTruthful}
use Rattle.vcpu_core.specs.World.{World, paged_in, lane_of}

-- the schedule is the steps that were made, and it is lawful; the board is the full run of it; the views are
-- numbered in order, and their logs are evidence; each fetch was allowed
pub record IsSound (c : Config) (w : World) (steps : List ℕ) : Type 0 where
  pub schedule : w.board.schedule ≡ steps
  pub lawful : IsLawfulSchedule c steps
  pub state : w.board.state ≡ full c steps
  pub numbered : length w.paged_views ≡ views_count c
  pub views : (v : ℕ) → v < length w.paged_views → IsSoundView c steps v (paged_in w.paged_views v)
  pub allowed : IsAllowed c (logs_of w.paged_views) steps

-- lane i is vCPU i's, and truthful for the steps that were made and the logs
pub record HasTruthfulLane (c : Config) (w : World) (steps : List ℕ) (i : ℕ) : Type 0 where
  pub vcpu : (lane_of w i).vcpu ≡ i
  pub truthful : IsTruthful c steps (logs_of w.paged_views) (lane_of w i)

-- there is a lane for each vCPU, and each is truthful
pub record HasTruthfulLanes (c : Config) (w : World) (steps : List ℕ) : Type 0 where
  pub count : length w.lanes ≡ c.setup.vcpus
  pub each : (i : ℕ) → i < length w.lanes → HasTruthfulLane c w steps i
