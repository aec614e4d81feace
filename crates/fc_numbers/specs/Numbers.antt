-- Registers as lists, and sign extension (unprivileged manual, "Programmers' Model for Base Integer ISA").
use Rattle.std.specs.Prelude.{ℕ, ◌+◌, ◌-◌, ◌%◌, ◌^◌, ◌==◌, nat_lt, if◌then◌else◌, List, slice_index, slice_set, replicate}

abbrev pub zero_regs : List ℕ
zero_regs = replicate 32 0

abbrev pub get_reg : List ℕ → ℕ → ℕ
get_reg regs n = slice_index regs n

-- register 0 is never written
abbrev pub set_reg : List ℕ → ℕ → ℕ → List ℕ
set_reg regs n v = if n == 0 then regs else slice_set regs n v

-- a number below 2 ^ bits, whose top bit is its sign, as a number of 64 bits
abbrev pub sext_from : ℕ → ℕ → ℕ
sext_from bits n = if nat_lt n (2 ^ (bits - 1)) then n else n + (2 ^ 64 - 2 ^ bits)

-- the low bits of a number, sign-extended
abbrev pub sext_of : ℕ → ℕ → ℕ
sext_of bits n = sext_from bits (n % 2 ^ bits)

-- the low 32 bits, sign-extended
abbrev pub sext32 : ℕ → ℕ
sext32 n = sext_of 32 n
