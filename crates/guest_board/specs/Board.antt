-- A board as contracts see it, its full step, and a run as a fold of full steps.
-- The rule: the clock counts steps; a vCPU may step while the run has not ended and it has steps left.
use Rattle.std.specs.Prelude.{ℕ, ◌+◌, ◌-◌, ◌%◌, ◌==◌, Bool, true, false, ◌&&◌, nat_lt, nat_le, nat_eq, is_none, if◌then◌else◌, Option, Some, None, List, [], ◌∷◌, ◌++◌, length, map, slice_index_or, slice_set}
use Rattle.std.specs.List.{list_all}
use Rattle.fc_numbers.specs.Numbers.{zero_regs, get_reg}
use Rattle.fc_numbers.specs.declared.machine.End.{End}
use Rattle.fc_numbers.specs.declared.machine.End.TheVariants.{Spent}
use Rattle.fc_numbers.specs.declared.machine.Mode.TheVariants.{Vs}
use Rattle.guest_ram.specs.Ram.{Ram}
use Rattle.device_feed.specs.Devices.{Devices}
use Rattle.rv_csr.specs.Csr.{fresh}
use Rattle.rv_step.specs.declared.vcpu.Vcpu.{Vcpu}
use Rattle.rv_step.specs.Site.{Site}
use Rattle.switch_hook.specs.Hook.{app_name_of}
use Rattle.guest_board.specs.declared.rules.Rules.{Rules}
use Rattle.guest_board.specs.declared.slot.Slot.{Slot}
use Rattle.guest_board.specs.declared.board.Full.{Full}
use Rattle.guest_board.specs.declared.board.Full.TheVariants.{Stepped, Over}
use Rattle.guest_board.specs.declared.step.Nesting.{Nesting}
use Rattle.guest_board.specs.declared.step.Nesting.TheVariants.{Stays, Interrupts, Traps, Returns}
use Rattle.guest_board.specs.declared.step.StepOutcome.{StepOutcome}
use Rattle.guest_board.specs.declared.step.StepStart.{StepStart}
use Rattle.guest_board.specs.Made.{Made}
use Rattle.guest_board.specs.Step.{made_by, step_start, place_of}

-- A state of the machine: the vCPUs, each with the steps it made, its app name, or none, and its depth of traps; the
-- memory, the devices and what the guest wrote; the steps of all, and the end.
pub record State : Type 0 where
  pub slots : List Slot
  pub ram : Ram
  pub devices : Devices
  pub console : List ℕ
  pub clock : ℕ
  pub end : Option End

abbrev pub nobody : Vcpu
nobody = record { regs = zero_regs; pc = 0; mode = Vs; csr = fresh; reserved = None; number = 0 }

abbrev pub no_slot : Slot
no_slot = record { vcpu = nobody; made = 0; name = None; depth = 0 }

abbrev pub slot_of : State → ℕ → Slot
slot_of s i = slice_index_or s.slots i no_slot

abbrev pub vcpu_of : State → ℕ → Vcpu
vcpu_of s i = (slot_of s i).vcpu

abbrev pub made_of : State → ℕ → ℕ
made_of s i = (slot_of s i).made

abbrev pub name_of : State → ℕ → Option (List ℕ)
name_of s i = (slot_of s i).name

abbrev pub depth_of : State → ℕ → ℕ
depth_of s i = (slot_of s i).depth

abbrev pub site_of : State → ℕ → Site
site_of s i = record { vcpu = vcpu_of s i; ram = s.ram; devices = s.devices }

-- vCPU i may step: it is one of the vCPUs, the run has not ended, and it has steps left
abbrev pub may : Rules → State → ℕ → Bool
may rules s i = nat_lt i (length s.slots) && is_none s.end && nat_lt (made_of s i) rules.steps

abbrev pub said : List ℕ → Option ℕ → List ℕ
said console None = console
said console (Some byte) = console ++ byte ∷ []

-- a reservation of a doubleword, which a write to a place in it breaks
abbrev pub kept : Option ℕ → ℕ → Option ℕ
kept None p = None
kept (Some word) p = if word == p - p % 8 then None else Some word

abbrev pub broken : ℕ → Slot → Slot
broken p slot = record slot { vcpu = record slot.vcpu { reserved = kept slot.vcpu.reserved p } }

abbrev pub released : Option ℕ → Slot → Slot
released None slot = slot
released (Some p) slot = broken p slot

abbrev pub broken_by : Option ℕ → List Slot → List Slot
broken_by None slots = slots
broken_by (Some p) slots = map (broken p) slots

-- no vCPU has steps left
abbrev pub is_spent : Rules → List Slot → Bool
is_spent rules slots = list_all (λ slot. nat_le rules.steps slot.made) slots

abbrev pub end_after : Rules → List Slot → Option End → Option End
end_after rules slots (Some e) = Some e
end_after rules slots None = if is_spent rules slots then Some Spent else None

-- An interrupt adds 1 to the depth, any other trap adds 1 where the depth is greater than 0, and SRET takes 1 away.
abbrev pub deeper : Nesting → ℕ → ℕ
deeper Stays depth = depth
deeper Interrupts depth = depth + 1
deeper Traps depth = if depth == 0 then 0 else depth + 1
deeper Returns depth = depth - 1

abbrev pub is_same_place : Option ℕ → Option ℕ → Bool
is_same_place None hook = false
is_same_place (Some place) None = false
is_same_place (Some place) (Some hook) = nat_eq place hook

-- a hook step fetches the hook's place, and neither stops the run nor shuts the machine down
abbrev pub is_hook : Rules → StepStart → StepOutcome → Bool
is_hook rules start left = is_same_place (place_of start) rules.hook && is_none left.end

-- the name that the hook reads: its argument a1 is register 11
abbrev pub hook_name : Rules → Site → Option (List ℕ)
hook_name rules s = app_name_of s.ram s.vcpu.csr (get_reg s.vcpu.regs 11) rules.name_at

-- After a hook step the vCPU has the name that the hook read, or none, and depth 0. Any other step keeps the name.
abbrev pub name_after : Bool → Rules → Site → Option (List ℕ) → Option (List ℕ)
name_after true rules s name = hook_name rules s
name_after false rules s name = name

abbrev pub depth_after : Bool → Nesting → ℕ → ℕ
depth_after true nesting depth = 0
depth_after false nesting depth = deeper nesting depth

-- the slot of a vCPU after its step, where this site is what the step began in
unfoldable pub slot_after : Rules → Site → Slot → StepStart → Made → Slot
slot_after rules s slot start m = record {
  vcpu = m.vcpu;
  made = slot.made + 1;
  name = name_after (is_hook rules start m.left) rules s slot.name;
  depth = depth_after (is_hook rules start m.left) m.left.nesting slot.depth;
}

-- the slots after a step of vCPU i: its write breaks the reservations of the others
abbrev pub slots_after : Rules → State → ℕ → StepStart → Made → List Slot
slots_after rules s i start m = slice_set (broken_by m.left.wrote s.slots) i (slot_after rules (site_of s i) (slot_of s i) start m)

unfoldable pub after_made : Rules → State → ℕ → StepStart → Made → State
after_made rules s i start m = record {
  slots = slots_after rules s i start m;
  ram = m.ram;
  devices = m.devices;
  console = said s.console m.put;
  clock = s.clock + 1;
  end = end_after rules (slots_after rules s i start m) m.left.end;
}

-- what the next step of vCPU i begins with
abbrev pub next_start : State → ℕ → StepStart
next_start s i = step_start (site_of s i) s.clock

-- the state after a step of vCPU i that begins so
abbrev pub stepped_by : Rules → State → ℕ → StepStart → State
stepped_by rules s i start = after_made rules s i start (made_by start s.clock (site_of s i))

-- the state after a step of vCPU i
unfoldable pub step_of : Rules → State → ℕ → State
step_of rules s i = stepped_by rules s i (next_start s i)

-- the place in text that the next step of vCPU i fetches
unfoldable pub next_of : State → ℕ → Option ℕ
next_of s i = place_of (next_start s i)

-- the run from a state by a schedule
abbrev pub run_from : Rules → State → List ℕ → State
run_from rules s [] = s
run_from rules s (i ∷ schedule) = run_from rules (step_of rules s i) schedule

-- a board: the rules of the run, the state, and the schedule of the steps so far
pub record Seat : Type 0 where
  pub rules : Rules
  pub state : State
  pub schedule : List ℕ

-- the board after vCPU i made a step to this state
abbrev pub moved : Seat → ℕ → State → Seat
moved b i next = record { rules = b.rules; state = next; schedule = b.schedule ++ i ∷ [] }

abbrev pub full_after : Seat → ℕ → Seat
full_after b i = if may b.rules b.state i then moved b i (step_of b.rules b.state i) else b

abbrev pub full_answer : Seat → ℕ → Full
full_answer b i = if may b.rules b.state i then Stepped (next_of b.state i) else Over
