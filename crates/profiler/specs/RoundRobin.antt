-- The round-robin schedule: vCPU 0, 1, .. again and again, passing over those that may not step, until the end.
-- The rule is this project's own: a profile is of this one schedule.
use Rattle.std.specs.Prelude.{◌≡◌, ℕ, ◌-◌, ◌<◌, ◌&&◌, ◌||◌, nat_lt, Bool, true, false, if◌then◌else◌, Some, List, length, slice_index}
use Rattle.std.proofs.Common.{zero, suc}
use Rattle.fc_numbers.specs.declared.machine.End.{End}
use Rattle.guest_board.specs.declared.rules.Rules.{Rules}
use Rattle.guest_board.specs.Board.{State, may}
use Rattle.run_evidence.specs.Config.{Config, full, full_at, rules_in}

-- vCPU k stands between the last one and vCPU i, going up and then round from 0
abbrev pub is_passed : ℕ → ℕ → ℕ → Bool
is_passed last i k = if nat_lt last i then nat_lt last k && nat_lt k i else nat_lt last k || nat_lt k i

-- vCPU i is the next in turn after the last one: it may step, and none between them may
pub record IsNextInTurn (rules : Rules) (s : State) (last i : ℕ) : Type 0 where
  pub may_step : may rules s i ≡ true
  pub passed : (k : ℕ) → is_passed last i k ≡ true → may rules s k ≡ false

-- the vCPU of the step before step t; before the first step it is the last of all, so that vCPU 0 is the first in turn
abbrev pub vcpu_before : Config → List ℕ → ℕ → ℕ
vcpu_before c schedule zero = c.setup.vcpus - 1
vcpu_before c schedule (suc t) = slice_index schedule t

-- each step is one of the next vCPU in turn
abbrev pub TakesTurns : Config → List ℕ → Type 0
TakesTurns c schedule = (t : ℕ) → t < length schedule → IsNextInTurn (rules_in c) (full_at c schedule t) (vcpu_before c schedule t) (slice_index schedule t)

-- the round-robin schedule, to this end of the run
pub record IsRoundRobin (c : Config) (schedule : List ℕ) (end : End) : Type 0 where
  pub turns : TakesTurns c schedule
  pub ended : (full c schedule).end ≡ Some end
