-- Lists of events in which no other vCPU steps between an event that is no step and the next step of its vCPU.
use Rattle.std.specs.Prelude.{◌≡◌, ℕ, ◌<◌, true, Some, List, [], ◌∷◌, length}
use Rattle.function_table.specs.Groups.{group_at}
use Rattle.run_evidence.specs.Config.{Config, IsConfig, image_groups, is_base, fetched_at, view_at}
use Rattle.vcpu_core.specs.declared.lane.Went.{Went}
use Rattle.vcpu_core.specs.declared.lane.Went.TheVariants.{Over, Stepped, Erased}
use Rattle.vcpu_core.specs.First.{first_world}
use Rattle.vcpu_core.specs.World.{World, go_of, went_of, go_all, erased, paged_in}
use Rattle.vcpu_core.specs.Missed.{HasEnded}

-- an event of vCPU j: where it is a step, j is i; else what comes later counts
abbrev pub first_by : Went → ℕ → ℕ → Type 0 → Type 0
first_by Over j i later = later
first_by Stepped j i later = j ≡ i
first_by Erased j i later = later

-- the first step among these events is one of vCPU i
abbrev pub StepsFirst : World → ℕ → List ℕ → Type 0
StepsFirst w i [] = ⊥
StepsFirst w i (j ∷ js) = first_by (went_of w j) j i (StepsFirst (go_of w j) i js)

-- after each event that is no step, the next step is one of its vCPU
abbrev pub IsUndisturbed : World → List ℕ → Type 0
IsUndisturbed w [] = Unit {0}
IsUndisturbed w (i ∷ is) = (went_of w i ≡ Erased → StepsFirst (go_of w i) i is) × IsUndisturbed (go_of w i) is

-- each fetch of text is of a group in the base of its view
abbrev pub IsCovered : Config → List ℕ → Type 0
IsCovered c schedule = (t p : ℕ) → t < length schedule → fetched_at c schedule t ≡ Some p → is_base c (view_at c schedule t) (group_at (image_groups c) p) ≡ true

-- no view has an entry
abbrev pub LogsNothing : World → Type 0
LogsNothing w = (v : ℕ) → v < length w.paged_views → (paged_in w.paged_views v).log ≡ []

abbrev pub CoveredLogsNothing : Type 0
CoveredLogsNothing = (c : Config) → IsConfig c → (is : List ℕ) → IsUndisturbed (first_world c) is → IsCovered c (erased (first_world c) is)
    → LogsNothing (go_all (first_world c) is)

abbrev pub OneVcpuIsUndisturbed : Type 0
OneVcpuIsUndisturbed = (c : Config) → IsConfig c → c.setup.vcpus ≡ 1 → (is : List ℕ) → HasEnded (go_all (first_world c) is)
    → IsUndisturbed (first_world c) is
