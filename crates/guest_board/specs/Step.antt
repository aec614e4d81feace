-- One step of a vCPU. It does the first of these that applies:
--   1. an interrupt that is due is taken;
--   2. the fetch faults or stops;
--   3. the instruction is illegal or raises an exception, and the trap is taken;
--   4. the instruction has its effect.
-- The rule: privileged manual, "Supervisor Interrupt Registers (sip and sie)" and "Trap entry", in this profile.
use Rattle.std.specs.Prelude.{ℕ, ◌+◌, ◌*◌, ◌^◌, Option, Some, None}
use Rattle.fc_numbers.specs.declared.machine.End.TheVariants.{Stopped}
use Rattle.rv_decode.specs.declared.Inst.{Inst}
use Rattle.rv_decode.specs.Rows.{decode_of, decode16_of}
use Rattle.device_feed.specs.Devices.{lines_of}
use Rattle.trap_unit.specs.Trap.{due}
use Rattle.rv_step.specs.Site.{Site}
use Rattle.rv_step.specs.Executed.{did}
use Rattle.rv_step.specs.declared.causes.TheConstants.{ILLEGAL_INSTRUCTION}
use Rattle.guest_board.specs.declared.fetch.Fetched.TheVariants.{Short, Long, Faults, Stops}
use Rattle.guest_board.specs.declared.step.Nesting.TheVariants.{Interrupts, Traps}
use Rattle.guest_board.specs.declared.step.StepStart.{StepStart}
use Rattle.guest_board.specs.declared.step.StepStart.TheVariants.{Interrupt, Fetches}
use Rattle.guest_board.specs.Fetch.{fetched, text_place}
use Rattle.guest_board.specs.Made.{Made, trapped, ended, settled, nesting_of}

-- an instruction: bits without a row are illegal; what it comes to is an exception or its effect
unfoldable pub by_inst : Option Inst → ℕ → ℕ → ℕ → Site → Made
by_inst None bits len clock s = trapped s ILLEGAL_INSTRUCTION bits Traps
by_inst (Some inst) bits len clock s = settled (did inst len clock s) bits (nesting_of inst)

abbrev pub word : ℕ → ℕ → ℕ
word first second = first + 65536 * second

-- the step of a vCPU that begins so
unfoldable pub made_by : StepStart → ℕ → Site → Made
made_by (Interrupt code) clock s = trapped s (2 ^ 63 + code) 0 Interrupts
made_by (Fetches (Faults cause tval)) clock s = trapped s cause tval Traps
made_by (Fetches (Stops stop)) clock s = ended s (Stopped stop)
made_by (Fetches (Short text p h)) clock s = by_inst (decode16_of h) h 2 clock s
made_by (Fetches (Long text p h g)) clock s = by_inst (decode_of (word h g)) (word h g) 4 clock s

abbrev pub due_at : Site → ℕ → Option ℕ
due_at s clock = due s.vcpu.csr s.vcpu.mode (lines_of s.devices s.vcpu.number clock)

abbrev pub start_by : Option ℕ → Site → StepStart
start_by (Some code) s = Interrupt code
start_by None s = Fetches (fetched s.vcpu s.ram)

-- what the step begins with: the interrupt that is due, else what its fetch comes to
unfoldable pub step_start : Site → ℕ → StepStart
step_start s clock = start_by (due_at s clock) s

-- the place in text that the step fetches
abbrev pub place_of : StepStart → Option ℕ
place_of (Interrupt code) = None
place_of (Fetches got) = text_place got
