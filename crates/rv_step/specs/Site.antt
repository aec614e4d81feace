-- Where an instruction acts, what it leaves, and where an address leads.
-- An address first goes through the guest's own tables; then kernel text is told from other RAM, and what is neither is an access fault.
use Rattle.std.specs.Prelude.{◌≡◌, ℕ, ◌+◌, ◌%◌, ◌^◌, true, false, if◌then◌else◌, Option, None, ℤ}
use Rattle.std.specs.Int.{w64, cast_unsigned}
use Rattle.fc_numbers.specs.Numbers.{get_reg, set_reg}
use Rattle.fc_numbers.specs.declared.machine.Access.{Access}
use Rattle.guest_ram.specs.Ram.{Ram, is_inside, is_text}
use Rattle.device_feed.specs.Devices.{Devices}
use Rattle.sv39_walk.specs.declared.Walked.{Walked}
use Rattle.sv39_walk.specs.declared.Walked.TheVariants.{At, PageFault, AccessFault, TableInText}
use Rattle.sv39_walk.specs.Walk.{walked_for}
use Rattle.rv_kinds.specs.declared.Source.{Source}
use Rattle.rv_kinds.specs.declared.Source.TheVariants.{Register, Number}
use Rattle.rv_step.specs.declared.vcpu.Vcpu.{Vcpu}
use Rattle.rv_step.specs.declared.vcpu.Effect.{Effect}
use Rattle.rv_step.specs.declared.vcpu.Effect.TheVariants.{Next}
use Rattle.rv_step.specs.declared.resolve.Resolved.{Resolved}
use Rattle.rv_step.specs.declared.resolve.Resolved.TheVariants as place

-- what an instruction finds
pub record Site : Type 0 where
  pub vcpu : Vcpu
  pub ram : Ram
  pub devices : Devices

-- what it leaves: also the byte for the console, if there is one, and how it goes on
pub record Outcome : Type 0 where
  pub vcpu : Vcpu
  pub ram : Ram
  pub devices : Devices
  pub put : Option ℕ
  pub effect : Effect

-- what an instruction leaves that changes its vCPU alone
pub record OnVcpu : Type 0 where
  pub vcpu : Vcpu
  pub effect : Effect

-- what an instruction leaves that changes its vCPU and memory
pub record OnMemory : Type 0 where
  pub vcpu : Vcpu
  pub ram : Ram
  pub effect : Effect

-- what an instruction leaves that changes its vCPU and the devices
pub record OnDevices : Type 0 where
  pub vcpu : Vcpu
  pub devices : Devices
  pub effect : Effect

abbrev pub of_vcpu : Site → OnVcpu → Outcome
of_vcpu s o = record { vcpu = o.vcpu; ram = s.ram; devices = s.devices; put = None; effect = o.effect }

abbrev pub of_memory : Site → OnMemory → Outcome
of_memory s o = record { vcpu = o.vcpu; ram = o.ram; devices = s.devices; put = None; effect = o.effect }

abbrev pub of_devices : Site → OnDevices → Outcome
of_devices s o = record { vcpu = o.vcpu; ram = s.ram; devices = o.devices; put = None; effect = o.effect }

abbrev pub on_vcpu : Vcpu → Effect → OnVcpu
on_vcpu v effect = record { vcpu = v; effect = effect }

abbrev pub on_memory : Vcpu → Ram → Effect → OnMemory
on_memory v ram effect = record { vcpu = v; ram = ram; effect = effect }

abbrev pub on_devices : Vcpu → Devices → Effect → OnDevices
on_devices v devices effect = record { vcpu = v; devices = devices; effect = effect }

-- the register that the low 5 bits name
abbrev pub reg_of : Vcpu → ℕ → ℕ
reg_of v n = get_reg v.regs (n % 32)

abbrev pub moved_to : Vcpu → ℕ → Vcpu
moved_to v pc = record v { pc = pc }

-- the address after an instruction of so many bytes
abbrev pub after : Vcpu → ℕ → ℕ
after v len = (v.pc + len) % 2 ^ 64

-- an immediate as a number of 64 bits, and an address with one added
abbrev pub num : ℤ → ℕ
num imm = cast_unsigned w64 imm

abbrev pub plus : ℕ → ℤ → ℕ
plus a imm = (a + num imm) % 2 ^ 64

-- a source: the register that it names, or its number
abbrev pub source_value : Vcpu → Source → ℕ
source_value v (Register n) = reg_of v n
source_value v (Number imm) = num imm

-- rd holds x, and pc stands at the next instruction
abbrev pub wrote : Vcpu → ℕ → ℕ → ℕ → Vcpu
wrote v len rd x = record v { regs = set_reg v.regs (rd % 32) x; pc = after v len }

-- the run goes on, and nothing was written to memory
abbrev pub next : Effect
next = Next

abbrev pub resolve_walked : Ram → Walked → Resolved
resolve_walked ram (At p) = if is_text ram p then place.Text p else if is_inside ram p then place.Ram p else place.AccessFault
resolve_walked ram PageFault = place.PageFault
resolve_walked ram AccessFault = place.AccessFault
resolve_walked ram TableInText = place.TableInText

-- where an address leads, in the vCPU's mode and by its control registers
unfoldable pub resolved : Vcpu → Ram → Access → ℕ → Resolved
resolved v ram access va =
    resolve_walked ram (walked_for ram v.csr v.mode access va)

-- a place that an address leads to is in RAM and has the address's low 12 bits
abbrev pub IsPlaced : Ram → ℕ → Resolved → Type 0
IsPlaced ram va (place.Ram p) = (is_inside ram p ≡ true) × (is_text ram p ≡ false) × (p % 4096 ≡ va % 4096)
IsPlaced ram va (place.Text p) = (is_inside ram p ≡ true) × (is_text ram p ≡ true) × (p % 4096 ≡ va % 4096)
IsPlaced ram va place.PageFault = Unit {0}
IsPlaced ram va place.AccessFault = Unit {0}
IsPlaced ram va place.TableInText = Unit {0}
