-- What the rows of the view machine keep, for every run and all logs that their board, view and lane are of.
use Rattle.std.specs.Prelude.{◌≡◌, ◌≢◌, ℕ, false, List, [], ◌∷◌, ◌++◌, length, replicate}
use Rattle.function_table.specs.Groups.{Groups}
use Rattle.chain_log.specs.declared.entry.LogEntry.{LogEntry}
use Rattle.view_file.specs.declared.views.Views.{Views}
use Rattle.view_store.specs.declared.view.Patched.{Patched}
use Rattle.view_store.specs.declared.view.Patched.TheVariants.{Recovered, WasPresent}
use Rattle.view_store.specs.Paged.{PagedView, is_logged, logged}
use Rattle.guest_board.specs.Board.{Seat}
use Rattle.gstage.specs.Table.{Table}
use Rattle.run_evidence.specs.Config.{Config, IsConfig, IsLawfulSchedule, full, image_groups}
use Rattle.run_evidence.specs.Evidence.{AreJustified, IsJustified, log_in}
use Rattle.run_evidence.specs.Growing.{Begins, IsAllowedFrom, board_of, paged_at}
use Rattle.vcpu_core.specs.declared.lane.Lane.{Lane}
use Rattle.vcpu_core.specs.Placed.{IsPlacedPhase}
use Rattle.vcpu_core.specs.Stages.{AreStagesFor}
use Rattle.vcpu_core.specs.Truthful.{IsTruthful}

-- n more steps of vCPU i: the board is that of the longer schedule, in which each of them exists and fetches what the
-- logs allow, and the vCPU's lane is truthful for it
pub record AreAllowedSteps (c : Config) (schedule : List ℕ) (logs : List (List LogEntry)) (i n : ℕ) (b : Seat) (l : Lane) : Type 0 where
  pub board : b ≡ board_of c (schedule ++ replicate n i)
  pub lawful : IsLawfulSchedule c (schedule ++ replicate n i)
  pub allowed : IsAllowedFrom c logs (schedule ++ replicate n i) (length schedule)
  pub vcpu : l.vcpu ≡ i
  pub truthful : IsTruthful c (schedule ++ replicate n i) logs l

abbrev pub TurnsKeep : Views → Seat → Lane → Seat → Lane → ℕ → Type 0
TurnsKeep views b l b' l' n = (c : Config) (schedule : List ℕ) (logs : List (List LogEntry)) → IsConfig c → c.views ≡ views
    → b ≡ board_of c schedule → IsLawfulSchedule c schedule → AreJustified c logs schedule → IsTruthful c schedule logs l
    → AreAllowedSteps c schedule logs l.vcpu n b' l'

-- the view that a window is taken from has the log for which the lane is truthful
abbrev pub FillKeeps : PagedView → Lane → Lane → Type 0
FillKeeps p l l' = (c : Config) (schedule : List ℕ) (logs : List (List LogEntry)) → IsConfig c
    → p ≡ paged_at c l.windows.view (log_in logs l.windows.view) → IsTruthful c schedule logs l → IsTruthful c schedule logs l'

abbrev pub LookKeeps : Groups → Lane → Lane → Type 0
LookKeeps groups l l' = (c : Config) (schedule : List ℕ) (logs : List (List LogEntry)) → IsConfig c → groups ≡ image_groups c
    → IsTruthful c schedule logs l → IsTruthful c schedule logs l'

-- an entry of this view, justified by the schedule, whose group was not logged
pub record IsNewEntry (c : Config) (schedule : List ℕ) (p : PagedView) (e : LogEntry) : Type 0 where
  pub view : e.view ≡ p.number
  pub justified : IsJustified c schedule e
  pub new : is_logged p.log e.group ≡ false

-- the view is as it was, or has one more entry
abbrev pub IsPatched : Config → List ℕ → PagedView → PagedView → Patched → Type 0
IsPatched c schedule p p' WasPresent = p' ≡ p
IsPatched c schedule p p' Recovered = (e : LogEntry) × (p' ≡ logged p e) × IsNewEntry c schedule p e

-- the lane is truthful for all logs among which the view's is that after the mend
pub record IsMended (c : Config) (schedule : List ℕ) (p p' : PagedView) (l : Lane) (did : Patched) : Type 0 where
  pub view : IsPatched c schedule p p' did
  pub truthful : (logs : List (List LogEntry)) → log_in logs p.number ≡ p'.log → IsTruthful c schedule logs l

abbrev pub MendKeeps : PagedView → Lane → PagedView → Lane → Patched → Type 0
MendKeeps p l p' l' did = (c : Config) (schedule : List ℕ) (logs : List (List LogEntry)) → IsConfig c
    → p ≡ paged_at c l.windows.view (log_in logs l.windows.view) → IsTruthful c schedule logs l
    → IsMended c schedule p p' l' did

-- none of these steps is one of vCPU i
abbrev pub AreOfOthers : ℕ → List ℕ → Type 0
AreOfOthers i [] = Unit {0}
AreOfOthers i (j ∷ js) = (j ≢ i) × AreOfOthers i js

-- a truthful lane stays so when other vCPUs step and when logs grow
abbrev pub TruthfulLanesStay : Type 0
TruthfulLanesStay = (c : Config) (schedule later : List ℕ) (logs more : List (List LogEntry)) (l : Lane) → AreOfOthers l.vcpu later
    → ((v : ℕ) → Begins (log_in logs v) (log_in more v)) → IsTruthful c schedule logs l → IsTruthful c (schedule ++ later) more l

-- what the rows ask of a lane is true of a truthful one
abbrev pub TruthfulLanesArePlaced : Type 0
TruthfulLanesArePlaced = (c : Config) (schedule : List ℕ) (logs : List (List LogEntry)) (l : Lane) → IsTruthful c schedule logs l → IsPlacedPhase (image_groups c) l l.phase

-- second-stage tables that serve the board after one schedule serve it after any other
abbrev pub StagesServe : Type 0
StagesServe = (c : Config) (schedule later : List ℕ) (views : ℕ) (stages : List Table) → IsConfig c
    → AreStagesFor (full c schedule).ram views stages → AreStagesFor (full c later).ram views stages
