-- What each class of instructions does to a vCPU, memory and devices.
-- Unprivileged manual: RV64I, "A" and "Zicsr"; privileged manual, "Supervisor-Level ISA". Misaligned accesses trap; a store to kernel text stops the run.
use Rattle.std.specs.Prelude.{ℕ, ◌-◌, ◌*◌, ◌%◌, ◌^◌, ◌==◌, Bool, true, false, not, nat_eq, if◌then◌else◌, bit_and, bit_or, Option, Some, None, Result, Ok, Err}
use Rattle.fc_numbers.specs.Numbers.{sext_of}
use Rattle.fc_numbers.specs.declared.machine.Access.TheVariants as access
use Rattle.fc_numbers.specs.declared.machine.Width.{Width}
use Rattle.fc_numbers.specs.declared.machine.Mode.{Mode}
use Rattle.fc_numbers.specs.declared.machine.Mode.TheVariants.{Vu, Vs}
use Rattle.fc_numbers.specs.declared.machine.End.TheVariants.{Shutdown as Shut}
use Rattle.guest_ram.specs.Value.{count_of}
use Rattle.guest_ram.specs.Ram.{Ram, value, with_value}
use Rattle.device_feed.specs.Devices.{Devices, lines_of, with_soft}
use Rattle.device_feed.specs.Calls.{Called, called}
use Rattle.device_feed.specs.declared.sbi.Sbi.TheVariants.{Done, Put, Shutdown}
use Rattle.rv_alu.specs.Alu.{alu_of, branch_of, amo_of}
use Rattle.rv_kinds.specs.declared.Alu.{Alu}
use Rattle.rv_kinds.specs.declared.Amo.{Amo}
use Rattle.rv_kinds.specs.declared.Branch.{Branch}
use Rattle.rv_kinds.specs.declared.CsrAccess.{CsrAccess}
use Rattle.rv_kinds.specs.declared.CsrOp.{CsrOp}
use Rattle.rv_kinds.specs.declared.CsrOp.TheVariants.{Write, Set, Clear}
use Rattle.rv_kinds.specs.declared.Load.{Load}
use Rattle.rv_kinds.specs.declared.LoadReserved.{LoadReserved}
use Rattle.rv_kinds.specs.declared.Sign.{Sign}
use Rattle.rv_kinds.specs.declared.Sign.TheVariants.{Signed, Unsigned}
use Rattle.rv_kinds.specs.declared.Source.{Source}
use Rattle.rv_kinds.specs.declared.Source.TheVariants.{Register, Number}
use Rattle.rv_kinds.specs.declared.Store.{Store}
use Rattle.rv_kinds.specs.declared.StoreConditional.{StoreConditional}
use Rattle.rv_csr.specs.declared.Illegal.{Illegal}
use Rattle.rv_csr.specs.declared.TheConstants.{SIP}
use Rattle.rv_csr.specs.Csr.{csr_read, csr_write, csr_wrote, is_set}
use Rattle.trap_unit.specs.Trap.{returned, return_mode}
use Rattle.rv_step.specs.declared.causes.TheConstants.{ILLEGAL_INSTRUCTION, USER_CALL}
use Rattle.rv_step.specs.declared.vcpu.Vcpu.{Vcpu}
use Rattle.rv_step.specs.declared.vcpu.Effect.{Effect}
use Rattle.rv_step.specs.declared.vcpu.Effect.TheVariants.{Wrote, Trap, End as Ends}
use Rattle.rv_step.specs.Reach.{reached}
use Rattle.rv_step.specs.Site.{Site, Outcome, OnVcpu, OnMemory, OnDevices, on_vcpu, on_memory, on_devices, of_vcpu, reg_of, source_value, num, moved_to, after, wrote, next, plus}

-- arithmetic on a register and a source
unfoldable pub did_alu : Vcpu → ℕ → Alu → OnVcpu
did_alu v len i = on_vcpu (wrote v len i.rd (alu_of i.op (reg_of v i.rs1) (source_value v i.source))) next

unfoldable pub did_put : Vcpu → ℕ → ℕ → ℕ → OnVcpu
did_put v len rd x = on_vcpu (wrote v len rd x) next

-- rd holds the address after the jump
unfoldable pub did_jump : Vcpu → ℕ → ℕ → ℕ → OnVcpu
did_jump v len rd to = on_vcpu (moved_to (wrote v len rd (after v len)) to) next

unfoldable pub did_branch : Vcpu → ℕ → Branch → OnVcpu
did_branch v len i =
    on_vcpu (moved_to v (if branch_of i.op (reg_of v i.rs1) (reg_of v i.rs2) then plus v.pc i.imm else after v len)) next

unfoldable pub did_nothing : Vcpu → ℕ → OnVcpu
did_nothing v len = on_vcpu (moved_to v (after v len)) next

-- an exception leaves all as it was
abbrev pub trap_on_vcpu : Vcpu → ℕ → ℕ → OnVcpu
trap_on_vcpu v cause tval = on_vcpu v (Trap cause tval)

-- a number of so many bytes, extended to 64 bits by its sign or by zeros
abbrev pub extended : Width → Sign → ℕ → ℕ
extended width Signed x = sext_of (8 * count_of width) x
extended width Unsigned x = x

-- each access either reaches a place, or comes to something else and leaves all as it was

abbrev pub load_from : Vcpu → Ram → ℕ → Load → Result ℕ Effect → OnVcpu
load_from v ram len i (Ok p) = on_vcpu (wrote v len i.rd (extended i.width i.sign (value ram p i.width))) next
load_from v ram len i (Err effect) = on_vcpu v effect

unfoldable pub did_load : Vcpu → Ram → ℕ → Load → OnVcpu
did_load v ram len i = load_from v ram len i (reached v ram access.Load i.width (plus (reg_of v i.rs1) i.imm))

abbrev pub store_to : Vcpu → Ram → ℕ → Store → Result ℕ Effect → OnMemory
store_to v ram len i (Ok p) = on_memory (moved_to v (after v len)) (with_value ram p i.width (reg_of v i.rs2)) (Wrote p)
store_to v ram len i (Err effect) = on_memory v ram effect

unfoldable pub did_store : Vcpu → Ram → ℕ → Store → OnMemory
did_store v ram len i = store_to v ram len i (reached v ram access.Store i.width (plus (reg_of v i.rs1) i.imm))

-- rd holds what stood in memory
abbrev pub amo_at : Vcpu → Ram → ℕ → Amo → Result ℕ Effect → OnMemory
amo_at v ram len i (Ok p) =
    on_memory (wrote v len i.rd (extended i.width Signed (value ram p i.width))) (with_value ram p i.width (amo_of i.op i.width (value ram p i.width) (reg_of v i.rs2))) (Wrote p)
amo_at v ram len i (Err effect) = on_memory v ram effect

-- an atomic operation is translated as a store
unfoldable pub did_amo : Vcpu → Ram → ℕ → Amo → OnMemory
did_amo v ram len i = amo_at v ram len i (reached v ram access.Store i.width (reg_of v i.rs1))

abbrev pub reserving : Vcpu → Option ℕ → Vcpu
reserving v reserved = record v { reserved = reserved }

-- the aligned 8 bytes of a place
abbrev pub doubleword_of : ℕ → ℕ
doubleword_of p = p - p % 8

abbrev pub reserve_at : Vcpu → Ram → ℕ → LoadReserved → Result ℕ Effect → OnVcpu
reserve_at v ram len i (Ok p) = on_vcpu (reserving (wrote v len i.rd (extended i.width Signed (value ram p i.width))) (Some (doubleword_of p))) next
reserve_at v ram len i (Err effect) = on_vcpu v effect

-- LR is a load that reserves
unfoldable pub did_reserve : Vcpu → Ram → ℕ → LoadReserved → OnVcpu
did_reserve v ram len i = reserve_at v ram len i (reached v ram access.Load i.width (reg_of v i.rs1))

abbrev pub is_reserved : Option ℕ → ℕ → Bool
is_reserved None p = false
is_reserved (Some reserved) p = nat_eq reserved (doubleword_of p)

-- SC stores and leaves 0 in rd where its place is reserved, else 1; either way the reservation is gone
abbrev pub conditional_at : Vcpu → Ram → ℕ → StoreConditional → Result ℕ Effect → OnMemory
conditional_at v ram len i (Ok p) =
    if is_reserved v.reserved p
    then on_memory (reserving (wrote v len i.rd 0) None) (with_value ram p i.width (reg_of v i.rs2)) (Wrote p)
    else on_memory (reserving (wrote v len i.rd 1) None) ram next
conditional_at v ram len i (Err effect) = on_memory v ram effect

unfoldable pub did_conditional : Vcpu → Ram → ℕ → StoreConditional → OnMemory
did_conditional v ram len i = conditional_at v ram len i (reached v ram access.Store i.width (reg_of v i.rs1))

-- setting and clearing by source 0 only read; the source is the number of a register, or the number itself
abbrev pub is_zero : Source → Bool
is_zero (Register n) = nat_eq n 0
is_zero (Number imm) = nat_eq (num imm) 0

abbrev pub is_writing : CsrOp → Source → Bool
is_writing Write source = true
is_writing Set source = not (is_zero source)
is_writing Clear source = not (is_zero source)

abbrev pub changed : CsrOp → ℕ → ℕ → ℕ
changed Write old x = x
changed Set old x = bit_or old x
changed Clear old x = bit_and old (2 ^ 64 - 1 - x)

-- a write of sip writes the vCPU's software bit
abbrev pub fed : Devices → ℕ → ℕ → ℕ → Devices
fed d v csr x = if csr == SIP then with_soft d v (is_set x 1) else d

abbrev pub csr_value : Vcpu → Devices → ℕ → ℕ → Result ℕ Illegal
csr_value v d csr clock = csr_read v.csr csr v.mode clock (lines_of d v.number clock)

-- the bits of an illegal instruction are not known here
abbrev pub illegal_effect : Effect
illegal_effect = Trap ILLEGAL_INSTRUCTION 0

abbrev pub csr_by : Vcpu → Devices → ℕ → CsrAccess → Result ℕ Illegal → OnDevices
csr_by v d len i (Err e) = on_devices v d illegal_effect
csr_by v d len i (Ok old) =
    let new = changed i.op old (source_value v i.source) in
    if is_writing i.op i.source
    then elim (csr_wrote i.csr v.mode) [
      | Ok u ↦ on_devices (wrote (record v { csr = csr_write v.csr i.csr v.mode new }) len i.rd old) (fed d v.number i.csr new) next
      | Err e ↦ on_devices v d illegal_effect
    ]
    else on_devices (wrote v len i.rd old) d next

unfoldable pub did_csr : Vcpu → Devices → ℕ → CsrAccess → ℕ → OnDevices
did_csr v d len i clock = csr_by v d len i (csr_value v d i.csr clock)

-- a shutdown leaves all as it was
abbrev pub called_by : Site → ℕ → Called → Outcome
called_by s len made = elim made.answer [
  | Done ↦ record { vcpu = moved_to (record s.vcpu { regs = made.regs }) (after s.vcpu len); ram = s.ram; devices = made.devices; put = None; effect = next }
  | Put byte ↦ record { vcpu = moved_to (record s.vcpu { regs = made.regs }) (after s.vcpu len); ram = s.ram; devices = made.devices; put = Some byte; effect = next }
  | Shutdown ↦ record { vcpu = s.vcpu; ram = s.ram; devices = s.devices; put = None; effect = Ends Shut }
]

abbrev pub call_in : Mode → Site → ℕ → ℕ → Outcome
call_in Vu s len clock = of_vcpu s (trap_on_vcpu s.vcpu USER_CALL 0)
call_in Vs s len clock = called_by s len (called s.devices s.vcpu.regs s.vcpu.number clock)

-- ECALL in supervisor mode is a call that the devices answer, and no trap
unfoldable pub did_call : Site → ℕ → ℕ → Outcome
did_call s len clock = call_in s.vcpu.mode s len clock

abbrev pub return_in : Mode → Vcpu → OnVcpu
return_in Vu v = on_vcpu v illegal_effect
return_in Vs v = on_vcpu (record v { csr = returned v.csr; mode = return_mode v.csr; pc = v.csr.sepc }) next

unfoldable pub did_return : Vcpu → OnVcpu
did_return v = return_in v.mode v

abbrev pub fence_in : Mode → Vcpu → ℕ → OnVcpu
fence_in Vu v len = on_vcpu v illegal_effect
fence_in Vs v len = on_vcpu (moved_to v (after v len)) next

unfoldable pub did_fence : Vcpu → ℕ → OnVcpu
did_fence v len = fence_in v.mode v len
