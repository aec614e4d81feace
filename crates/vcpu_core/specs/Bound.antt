-- Events of one vCPU that goes on while no other vCPU steps: others may fill, trap, look up and mend as they like.
use Rattle.std.specs.Prelude.{◌≡◌, ◌≢◌, ℕ, ◌≤◌, ◌==◌, List, [], ◌∷◌, count_by}
use Rattle.run_evidence.specs.Config.{Config, IsConfig}
use Rattle.vcpu_core.specs.declared.lane.Went.TheVariants.{Over, Stepped}
use Rattle.vcpu_core.specs.First.{first_world}
use Rattle.vcpu_core.specs.World.{World, go_of, went_of, go_all, erased}

-- each event of vCPU i is one, and no event of another vCPU is a step
abbrev pub GoesOnAlone : World → ℕ → List ℕ → Type 0
GoesOnAlone w i [] = Unit {0}
GoesOnAlone w i (j ∷ js) = (j ≡ i → went_of w j ≢ Over) × (j ≢ i → went_of w j ≢ Stepped) × GoesOnAlone (go_of w j) i js

-- how many of the list are vCPU i's
abbrev pub count_of_vcpu : ℕ → List ℕ → ℕ
count_of_vcpu i js = count_by (λ j. j == i) js

-- of ten events of the vCPU, after any list, at least one is a step
abbrev pub OneInTenSteps : Type 0
OneInTenSteps = (c : Config) → IsConfig c → (is js : List ℕ) (i : ℕ) → GoesOnAlone (go_all (first_world c) is) i js
    → 10 ≤ count_of_vcpu i js → 1 ≤ count_of_vcpu i (erased (go_all (first_world c) is) js)
