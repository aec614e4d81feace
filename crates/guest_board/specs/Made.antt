-- What a step makes of its vCPU, the memory and the devices: a trap, an end of the run, or the effect of an instruction.
-- The rule: privileged manual, "Supervisor Trap Value (stval) Register", in this profile: an illegal instruction's value is
-- its bits.
use Rattle.std.specs.Prelude.{ℕ, ◌==◌, if◌then◌else◌, Option, Some, None}
use Rattle.fc_numbers.specs.declared.machine.End.{End}
use Rattle.fc_numbers.specs.declared.machine.Mode.TheVariants.{Vs}
use Rattle.rv_decode.specs.declared.Inst.{Inst}
use Rattle.rv_decode.specs.declared.Inst.TheVariants.{Sret}
use Rattle.guest_ram.specs.Ram.{Ram}
use Rattle.device_feed.specs.Devices.{Devices}
use Rattle.trap_unit.specs.Trap.{entered, entered_at}
use Rattle.rv_step.specs.declared.vcpu.Vcpu.{Vcpu}
use Rattle.rv_step.specs.declared.vcpu.Effect.{Effect}
use Rattle.rv_step.specs.declared.vcpu.Effect.TheVariants as effect
use Rattle.rv_step.specs.Site.{Site, Outcome}
use Rattle.rv_step.specs.declared.causes.TheConstants.{ILLEGAL_INSTRUCTION}
use Rattle.guest_board.specs.declared.step.StepOutcome.{StepOutcome}
use Rattle.guest_board.specs.declared.step.Nesting.{Nesting}
use Rattle.guest_board.specs.declared.step.Nesting.TheVariants.{Stays, Traps, Returns}

-- what a step leaves
pub record Made : Type 0 where
  pub vcpu : Vcpu
  pub ram : Ram
  pub devices : Devices
  pub put : Option ℕ
  pub left : StepOutcome

abbrev pub plain : Nesting → StepOutcome
plain nesting = record { end = None; wrote = None; nesting = nesting }

abbrev pub ends : End → StepOutcome
ends e = record { end = Some e; wrote = None; nesting = Stays }

unfoldable pub in_trap : Vcpu → ℕ → ℕ → Vcpu
in_trap v cause tval = record v { csr = entered v.csr v.mode cause tval v.pc; mode = Vs; pc = entered_at v.csr cause }

-- the vCPU enters a trap, and all else stays
abbrev pub trapped : Site → ℕ → ℕ → Nesting → Made
trapped s cause tval nesting = record { vcpu = in_trap s.vcpu cause tval; ram = s.ram; devices = s.devices; put = None; left = plain nesting }

-- the run ends, and all else stays
abbrev pub ended : Site → End → Made
ended s e = record { vcpu = s.vcpu; ram = s.ram; devices = s.devices; put = None; left = ends e }

-- an illegal instruction's value is its bits
abbrev pub told : ℕ → ℕ → ℕ → ℕ
told bits cause tval = if cause == ILLEGAL_INSTRUCTION then bits else tval

abbrev pub vcpu_after : Effect → ℕ → Vcpu → Vcpu
vcpu_after effect.Next bits v = v
vcpu_after (effect.Wrote place) bits v = v
vcpu_after (effect.Trap cause tval) bits v = in_trap v cause (told bits cause tval)
vcpu_after (effect.End e) bits v = v

abbrev pub left_by : Effect → Nesting → StepOutcome
left_by effect.Next nesting = plain nesting
left_by (effect.Wrote place) nesting = record { end = None; wrote = Some place; nesting = nesting }
left_by (effect.Trap cause tval) nesting = plain Traps
left_by (effect.End e) nesting = ends e

-- what an instruction comes to: it has its effect, traps, or ends the run
abbrev pub settled : Outcome → ℕ → Nesting → Made
settled o bits nesting =
    record { vcpu = vcpu_after o.effect bits o.vcpu; ram = o.ram; devices = o.devices; put = o.put; left = left_by o.effect nesting }

-- an SRET that has its effect leaves a trap
unfoldable pub nesting_of : Inst → Nesting
nesting_of Sret = Returns
nesting_of inst = Stays
