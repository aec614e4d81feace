-- What a trap and SRET do with the registers, and which interrupt is due.
-- The rules are the privileged manual's, "Supervisor-Level ISA", for traps that are delegated to supervisor mode.
use Rattle.std.specs.Prelude.{ℕ, ◌+◌, ◌-◌, ◌*◌, ◌%◌, ◌^◌, Bool, true, ◌&&◌, nat_le, if◌then◌else◌, bit_and, bit_or, Option, Some, None}
use Rattle.fc_numbers.specs.declared.machine.Mode.{Mode}
use Rattle.fc_numbers.specs.declared.machine.Mode.TheVariants.{Vu, Vs}
use Rattle.rv_csr.specs.declared.TheConstants.{SIE_BIT, SPIE_BIT, SPP_BIT, STATUS_SIE, STATUS_SPIE, STATUS_SPP}
use Rattle.rv_csr.specs.Csrs.{Csrs}
use Rattle.rv_csr.specs.Csr.{is_set}
use Rattle.trap_unit.specs.declared.TheConstants.{INTERRUPT, SOFTWARE, TIMER, EXTERNAL}

-- a status without SIE, SPIE and SPP
abbrev pub cleared : ℕ → ℕ
cleared status = bit_and status (2 ^ 64 - 1 - (STATUS_SIE + STATUS_SPIE + STATUS_SPP))

abbrev pub spp_of : Mode → ℕ
spp_of Vs = STATUS_SPP
spp_of Vu = 0

-- SPIE is what SIE was, SIE is 0, and SPP tells the mode
abbrev pub trap_status : ℕ → Mode → ℕ
trap_status status mode = bit_or (bit_or (cleared status) (if is_set status SIE_BIT then STATUS_SPIE else 0)) (spp_of mode)

-- SIE is what SPIE was, SPIE is 1, and SPP is 0
abbrev pub return_status : ℕ → ℕ
return_status status = bit_or (bit_or (cleared status) (if is_set status SPIE_BIT then STATUS_SIE else 0)) STATUS_SPIE

-- stvec without its low two bits, and for a vectored interrupt 4 times its code further on
abbrev pub vector : ℕ → ℕ → ℕ
vector stvec cause =
    if nat_le INTERRUPT cause && is_set stvec 0
    then (bit_and stvec (2 ^ 64 - 4) + 4 * (cause - INTERRUPT)) % 2 ^ 64
    else bit_and stvec (2 ^ 64 - 4)

-- the registers after the entry
abbrev pub entered : Csrs → Mode → ℕ → ℕ → ℕ → Csrs
entered csr mode cause tval pc = record csr { sstatus = trap_status csr.sstatus mode; sepc = pc; scause = cause; stval = tval }

-- where the trap leads to
abbrev pub entered_at : Csrs → ℕ → ℕ
entered_at csr cause = vector csr.stvec cause

-- the registers after SRET, which goes on at sepc
abbrev pub returned : Csrs → Csrs
returned csr = record csr { sstatus = return_status csr.sstatus }

abbrev pub return_mode : Csrs → Mode
return_mode csr = if is_set csr.sstatus SPP_BIT then Vs else Vu

-- user mode takes every enabled interrupt, supervisor mode only with SIE
abbrev pub are_open : Csrs → Mode → Bool
are_open csr Vu = true
are_open csr Vs = is_set csr.sstatus SIE_BIT

abbrev pub due : Csrs → Mode → ℕ → Option ℕ
due csr mode lines =
    let asked = bit_and lines csr.sie in
    if are_open csr mode
    then (if is_set asked EXTERNAL then Some EXTERNAL
    else if is_set asked SOFTWARE then Some SOFTWARE
    else if is_set asked TIMER then Some TIMER
    else None)
    else None
