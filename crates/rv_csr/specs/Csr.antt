-- The table of control and status registers: which a mode may use, what a read answers, and what a write keeps.
-- Registers and fields are the privileged manual's ("Supervisor CSRs"); the bits that are kept are this project's choice.
use Rattle.std.specs.Prelude.{ℕ, ◌+◌, ◌-◌, ◌*◌, ◌/◌, ◌%◌, ◌^◌, ◌==◌, Bool, true, ◌&&◌, ◌||◌, nat_eq, if◌then◌else◌, bit_and, bit_or, Result, Ok, Err}
use Rattle.fc_numbers.specs.declared.machine.Mode.{Mode}
use Rattle.fc_numbers.specs.declared.machine.Mode.TheVariants.{Vu, Vs}
use Rattle.rv_csr.specs.declared.Illegal.{Illegal}
use Rattle.rv_csr.specs.declared.TheConstants.{SSTATUS, SIE, STVEC, SCOUNTEREN, SSCRATCH, SEPC, SCAUSE, STVAL, SIP, SATP, TIME, STATUS_SIE, STATUS_SPIE, STATUS_SPP, STATUS_SUM, STATUS_MXR, STATUS_UXL, INTERRUPTS, COUNTER_TIME, TIME_BIT}
use Rattle.page_table.specs.declared.TheConstants.{MODE_BARE, MODE_SV39, MODE_SV48}
use Rattle.page_table.specs.Mode.{satp_mode}
use Rattle.rv_csr.specs.Csrs.{Csrs}

abbrev pub is_set : ℕ → ℕ → Bool
is_set v n = nat_eq (v / 2 ^ n % 2) 1

-- v with bit n cleared
abbrev pub without : ℕ → ℕ → ℕ
without v n = bit_and v (2 ^ 64 - 1 - 2 ^ n)

abbrev pub illegal : Illegal
illegal = record {}

-- the values at a start
abbrev pub fresh : Csrs
fresh = record { sstatus = 2 * 2 ^ 32; sie = 0; stvec = 0; scounteren = 0; sscratch = 0; sepc = 0; scause = 0; stval = 0; satp = 0 }

abbrev pub sstatus_bits : ℕ → ℕ
sstatus_bits v = bit_or (bit_and v (STATUS_SIE + STATUS_SPIE + STATUS_SPP + STATUS_SUM + STATUS_MXR)) STATUS_UXL

-- MODE, bits 63 to 60, and PPN, bits 43 to 0
abbrev pub satp_bits : ℕ → ℕ
satp_bits v = satp_mode v * 2 ^ 60 + v % 2 ^ 44

-- Bare keeps nothing, Sv39 and Sv48 keep MODE and PPN, and another MODE leaves the old value
abbrev pub satp_after : ℕ → ℕ → ℕ
satp_after old v =
    if satp_mode v == MODE_BARE then 0
    else if satp_mode v == MODE_SV39 || satp_mode v == MODE_SV48 then satp_bits v
    else old

-- user mode may name `time` alone, where scounteren lets it
abbrev pub may_access : Csrs → ℕ → Mode → Bool
may_access csr n Vs = true
may_access csr n Vu = nat_eq n TIME && is_set csr.scounteren TIME_BIT

abbrev pub read_row : Csrs → ℕ → ℕ → ℕ → Result ℕ Illegal
read_row csr n clock lines =
    if n == SSTATUS then Ok (sstatus_bits csr.sstatus)
    else if n == SIE then Ok (bit_and csr.sie INTERRUPTS)
    else if n == STVEC then Ok csr.stvec
    else if n == SCOUNTEREN then Ok (bit_and csr.scounteren COUNTER_TIME)
    else if n == SSCRATCH then Ok csr.sscratch
    else if n == SEPC then Ok csr.sepc
    else if n == SCAUSE then Ok csr.scause
    else if n == STVAL then Ok csr.stval
    else if n == SIP then Ok lines
    else if n == SATP then Ok (satp_bits csr.satp)
    else if n == TIME then Ok clock
    else Err illegal

abbrev pub csr_read : Csrs → ℕ → Mode → ℕ → ℕ → Result ℕ Illegal
csr_read csr n mode clock lines = if may_access csr n mode then read_row csr n clock lines else Err illegal

-- all but `time`
abbrev pub is_writable : ℕ → Bool
is_writable n =
    n == SSTATUS || n == SIE || n == STVEC || n == SCOUNTEREN || n == SSCRATCH || n == SEPC || n == SCAUSE || n == STVAL || n == SIP || n == SATP

-- what a write answers
abbrev pub csr_wrote : ℕ → Mode → Result (Unit {0}) Illegal
csr_wrote n Vu = Err illegal
csr_wrote n Vs = if is_writable n then Ok tt else Err illegal

abbrev pub write_row : Csrs → ℕ → ℕ → Csrs
write_row csr n v =
    if n == SSTATUS then record csr { sstatus = sstatus_bits v }
    else if n == SIE then record csr { sie = bit_and v INTERRUPTS }
    else if n == STVEC then record csr { stvec = without v 1 }
    else if n == SCOUNTEREN then record csr { scounteren = bit_and v COUNTER_TIME }
    else if n == SSCRATCH then record csr { sscratch = v }
    else if n == SEPC then record csr { sepc = without v 0 }
    else if n == SCAUSE then record csr { scause = v }
    else if n == STVAL then record csr { stval = v }
    else if n == SATP then record csr { satp = satp_after csr.satp v }
    else csr

-- the registers after a write
abbrev pub csr_write : Csrs → ℕ → Mode → ℕ → Csrs
csr_write csr n Vu v = csr
csr_write csr n Vs v = write_row csr n v
