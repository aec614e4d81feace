-- Events until a run has ended: those that a script asks for, and then those of vCPU 0, 1, .. again and again.
use Rattle.std.specs.Prelude.{◌≡◌, ℕ, ◌<◌, List, [], ◌++◌}
use Rattle.std.specs.List.{range_with_len}
use Rattle.std.proofs.Common.{zero, suc}
use Rattle.vcpu_core.specs.World.{World, go_all, went_of}
use Rattle.vcpu_core.specs.declared.lane.Went.TheVariants.{Over}

-- so many vCPUs, each once
abbrev pub round_of : ℕ → List ℕ
round_of vcpus = range_with_len 0 vcpus

-- and that so many times
abbrev pub rounds_of : ℕ → ℕ → List ℕ
rounds_of vcpus zero = []
rounds_of vcpus (suc n) = rounds_of vcpus n ++ round_of vcpus

-- the events of a script, and then so many rounds
abbrev pub events_of_script : List ℕ → ℕ → ℕ → List ℕ
events_of_script script vcpus rounds = script ++ rounds_of vcpus rounds

-- no vCPU may step
abbrev pub IsIdle : ℕ → World → Type 0
IsIdle vcpus w = (i : ℕ) → i < vcpus → went_of w i ≡ Over

-- the script and some rounds lead from one world to another, in which no vCPU may step
pub record RunsOut (script : List ℕ) (vcpus : ℕ) (before after : World) : Type 0 where
  pub rounds : ℕ
  pub leads : after ≡ go_all before (events_of_script script vcpus rounds)
  pub idle : IsIdle vcpus after
