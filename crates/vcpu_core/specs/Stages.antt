-- The second-stage tables of a core: one for each view, in order of the views, each for the board's memory.
use Rattle.std.specs.Prelude.{◌≡◌, ℕ, ◌<◌, List, length, slice_index_or}
use Rattle.fc_numbers.specs.declared.machine.GKind.{GKind}
use Rattle.guest_ram.specs.Ram.{Ram}
use Rattle.gstage.specs.Stage.{IsFor}
use Rattle.gstage.specs.Table.{Table}

-- the table is view v's, for this memory
pub record IsStageFor (memory : Ram) (v : ℕ) (t : Table) : Type 0 where
  pub of_view : t.view ≡ v
  pub placing : IsFor t.text t.ram memory

-- one table for each of so many views
pub record AreStagesFor (memory : Ram) (views : ℕ) (stages : List Table) : Type 0 where
  pub count : length stages ≡ views
  pub each : (v : ℕ) (d : Table) → v < length stages → IsStageFor memory v (slice_index_or stages v d)

-- each table is of this kind
abbrev pub AreOfKind : GKind → List Table → Type 0
AreOfKind kind stages = (v : ℕ) (d : Table) → v < length stages → (slice_index_or stages v d).kind ≡ kind
