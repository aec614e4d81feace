-- What every step of the machine leaves as it is, whatever it begins with.
-- The rules: a step that ends the run by a stop or a shutdown changes nothing but the end, the schedule, the count of its
-- vCPU and the clock; a step of one vCPU leaves the others, but that it breaks their reservations of what it wrote.
use Rattle.std.specs.Prelude.{◌≡◌, ◌≢◌, ℕ, ◌+◌, ◌<◌, true, false, Some, None, length, slice_set}
use Rattle.fc_numbers.specs.declared.machine.End.{End}
use Rattle.fc_numbers.specs.declared.machine.End.TheVariants.{Spent}
use Rattle.guest_ram.specs.Ram.{IsLaid}
use Rattle.rv_step.specs.Kept.{KeepsText}
use Rattle.guest_board.specs.declared.rules.Rules.{Rules}
use Rattle.guest_board.specs.declared.slot.Slot.{Slot}
use Rattle.guest_board.specs.declared.step.StepStart.{StepStart}
use Rattle.guest_board.specs.Step.{made_by, place_of}
use Rattle.guest_board.specs.Board.{Seat, State, is_same_place, name_of, released, site_of, slot_of, made_of, may, next_start, stepped_by, step_of, full_after}

-- one step more
abbrev pub counted : Slot → Slot
counted slot = record slot { made = slot.made + 1 }

-- nothing but the end, the count of vCPU i and the clock has changed
pub record EndsOnly (i : ℕ) (s t : State) : Type 0 where
  pub slots : t.slots ≡ slice_set s.slots i (counted (slot_of s i))
  pub ram : t.ram ≡ s.ram
  pub devices : t.devices ≡ s.devices
  pub console : t.console ≡ s.console
  pub clock : t.clock ≡ s.clock + 1

-- the same slot, but that the vCPU's reservation may be gone
pub record IsSameSlot (a b : Slot) : Type 0 where
  pub regs : b.vcpu.regs ≡ a.vcpu.regs
  pub pc : b.vcpu.pc ≡ a.vcpu.pc
  pub mode : b.vcpu.mode ≡ a.vcpu.mode
  pub csr : b.vcpu.csr ≡ a.vcpu.csr
  pub number : b.vcpu.number ≡ a.vcpu.number
  pub made : b.made ≡ a.made
  pub name : b.name ≡ a.name
  pub depth : b.depth ≡ a.depth

-- a step of the full machine is one that begins with what is next
abbrev pub FullStepsBegin : Type 0
FullStepsBegin = (rules : Rules) (s : State) (i : ℕ) → step_of rules s i ≡ stepped_by rules s i (next_start s i)

abbrev pub StepsKeepText : Type 0
StepsKeepText = (rules : Rules) (s : State) (i : ℕ) (start : StepStart) → IsLaid s.ram → KeepsText s.ram (stepped_by rules s i start).ram

abbrev pub EndsChangeNothing : Type 0
EndsChangeNothing = (rules : Rules) (s : State) (i : ℕ) (start : StepStart) (e : End)
    → (stepped_by rules s i start).end ≡ Some e → e ≢ Spent → EndsOnly i s (stepped_by rules s i start)

-- another vCPU's slot stays, but for a reservation of what the step wrote
abbrev pub StepsReleaseOthers : Type 0
StepsReleaseOthers = (rules : Rules) (s : State) (i j : ℕ) (start : StepStart) → j ≢ i
    → slot_of (stepped_by rules s i start) j ≡ released (made_by start s.clock (site_of s i)).left.wrote (slot_of s j)

abbrev pub StepsLeaveOthers : Type 0
StepsLeaveOthers = (rules : Rules) (s : State) (i j : ℕ) (start : StepStart) → j ≢ i
    → IsSameSlot (slot_of s j) (slot_of (stepped_by rules s i start) j)

abbrev pub NumberOfVcpusStays : Type 0
NumberOfVcpusStays = (rules : Rules) (s : State) (i : ℕ) (start : StepStart) → length (stepped_by rules s i start).slots ≡ length s.slots

abbrev pub StepsCountOne : Type 0
StepsCountOne = (rules : Rules) (s : State) (i : ℕ) (start : StepStart) → i < length s.slots → made_of (stepped_by rules s i start) i ≡ made_of s i + 1

abbrev pub ClockCountsSteps : Type 0
ClockCountsSteps = (rules : Rules) (s : State) (i : ℕ) (start : StepStart) → (stepped_by rules s i start).clock ≡ s.clock + 1

-- where the run has ended nothing happens any more
abbrev pub EndsStay : Type 0
EndsStay = (b : Seat) (i : ℕ) (e : End) → b.state.end ≡ Some e → full_after b i ≡ b

-- a step that does not fetch the hook's place keeps the name of its vCPU
abbrev pub NamesStay : Type 0
NamesStay = (rules : Rules) (s : State) (i : ℕ) (start : StepStart) → i < length s.slots
    → is_same_place (place_of start) rules.hook ≡ false → name_of (stepped_by rules s i start) i ≡ name_of s i

-- a vCPU that may not step may not after a step of another either
abbrev pub IdleVcpusStay : Type 0
IdleVcpusStay = (rules : Rules) (s : State) (i k : ℕ) (start : StepStart)
    → may rules s i ≡ true → may rules s k ≡ false → may rules (stepped_by rules s i start) k ≡ false

-- where nobody may step after a step, the run has ended
abbrev pub IdleRunsHaveEnded : Type 0
IdleRunsHaveEnded = (rules : Rules) (s : State) (i : ℕ) (start : StepStart)
    → ((k : ℕ) → may rules (stepped_by rules s i start) k ≡ false) → (stepped_by rules s i start).end ≢ None
