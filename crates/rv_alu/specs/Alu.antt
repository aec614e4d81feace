-- What each operation makes of its sources, which are numbers below 2 ^ 64.
-- The rules are the unprivileged RISC-V manual's, in its chapters on RV64I and the M and A extensions.
use Rattle.std.specs.Prelude.{ℕ, ◌+◌, ◌-◌, ◌*◌, ◌/◌, ◌%◌, ◌^◌, ◌==◌, Bool, true, false, not, nat_lt, nat_le, nat_eq, if◌then◌else◌, ℤ, pos, ◌*ℤ◌, int_lt, int_div, int_rem, bit_and, bit_or, bit_xor}
use Rattle.std.specs.Int.{w64, w32, w128, cast_unsigned, cast_signed, int_shr}
use Rattle.fc_numbers.specs.Numbers.{sext32}
use Rattle.fc_numbers.specs.declared.machine.Width.{Width}
use Rattle.fc_numbers.specs.declared.machine.Width.TheVariants.{Byte, Halfword, Word, Doubleword}
use Rattle.rv_alu.specs.declared.AluOp.{AluOp}
use Rattle.rv_alu.specs.declared.AluOp.TheVariants.{Add, Sub, Sll, Slt, Sltu, Xor, Srl, Sra, Or, And, Addw, Subw, Sllw, Srlw, Sraw, Mul, Mulh, Mulhsu, Mulhu, Div, Divu, Rem, Remu, Mulw, Divw, Divuw, Remw, Remuw}
use Rattle.rv_alu.specs.declared.BranchOp.{BranchOp}
use Rattle.rv_alu.specs.declared.BranchOp.TheVariants.{Eq, Ne, Lt, Ge, Ltu, Geu}
use Rattle.rv_alu.specs.declared.AmoOp.{AmoOp}
use Rattle.rv_alu.specs.declared.AmoOp.TheVariants.{Swap, Add as AmoAdd, Xor as AmoXor, And as AmoAnd, Or as AmoOr, Min, Max, MinU, MaxU}

-- the number that these 64 bits are in two's complement
abbrev pub signed_doubleword : ℕ → ℤ
signed_doubleword a = cast_signed w64 a

abbrev pub bit_of : Bool → ℕ
bit_of true = 1
bit_of false = 0

-- whether a is below b, as signed numbers
abbrev pub below : ℕ → ℕ → Bool
below a b = int_lt (signed_doubleword a) (signed_doubleword b)

-- shifted to the right, with copies of the sign
abbrev pub shifted : ℕ → ℕ → ℕ
shifted a by = cast_unsigned w64 (int_shr (signed_doubleword a) by)

abbrev pub shifted_word : ℕ → ℕ → ℕ
shifted_word a by = cast_unsigned w32 (int_shr (cast_signed w32 a) by)

-- the upper half of a product of signed numbers
abbrev pub product_top : ℕ → ℕ → ℕ
product_top a b = cast_unsigned w128 (signed_doubleword a *ℤ signed_doubleword b) / 2 ^ 64

-- the same of a signed number by an unsigned one
abbrev pub product_top_mixed : ℕ → ℕ → ℕ
product_top_mixed a b = cast_unsigned w128 (signed_doubleword a *ℤ pos b) / 2 ^ 64

-- by zero all ones; the least number by -1 wraps round to itself
abbrev pub quotient : ℕ → ℕ → ℕ
quotient a b = if b == 0 then 2 ^ 64 - 1 else cast_unsigned w64 (int_div (signed_doubleword a) (signed_doubleword b))

-- by zero the dividend
abbrev pub remainder : ℕ → ℕ → ℕ
remainder a b = if b == 0 then a else cast_unsigned w64 (int_rem (signed_doubleword a) (signed_doubleword b))

abbrev pub quotient_word : ℕ → ℕ → ℕ
quotient_word a b = if b == 0 then 2 ^ 64 - 1 else sext32 (cast_unsigned w32 (int_div (cast_signed w32 a) (cast_signed w32 b)))

abbrev pub remainder_word : ℕ → ℕ → ℕ
remainder_word a b = sext32 (if b == 0 then a else cast_unsigned w32 (int_rem (cast_signed w32 a) (cast_signed w32 b)))

-- unsigned; `top` is all ones
abbrev pub quotient_u : ℕ → ℕ → ℕ → ℕ
quotient_u top a b = if b == 0 then top else a / b

abbrev pub remainder_u : ℕ → ℕ → ℕ
remainder_u a b = if b == 0 then a else a % b

unfoldable pub alu_of : AluOp → ℕ → ℕ → ℕ
alu_of Add a b = (a + b) % 2 ^ 64
alu_of Sub a b = (a + (2 ^ 64 - b)) % 2 ^ 64
alu_of Sll a b = (a * 2 ^ (b % 64)) % 2 ^ 64
alu_of Slt a b = bit_of (below a b)
alu_of Sltu a b = bit_of (nat_lt a b)
alu_of Xor a b = bit_xor a b
alu_of Srl a b = a / 2 ^ (b % 64)
alu_of Sra a b = shifted a (b % 64)
alu_of Or a b = bit_or a b
alu_of And a b = bit_and a b
alu_of Addw a b = sext32 ((a % 2 ^ 32 + b % 2 ^ 32) % 2 ^ 32)
alu_of Subw a b = sext32 ((a % 2 ^ 32 + (2 ^ 32 - b % 2 ^ 32)) % 2 ^ 32)
alu_of Sllw a b = sext32 ((a % 2 ^ 32 * 2 ^ (b % 32)) % 2 ^ 32)
alu_of Srlw a b = sext32 (a % 2 ^ 32 / 2 ^ (b % 32))
alu_of Sraw a b = sext32 (shifted_word (a % 2 ^ 32) (b % 32))
alu_of Mul a b = (a * b) % 2 ^ 64
alu_of Mulh a b = product_top a b
alu_of Mulhsu a b = product_top_mixed a b
alu_of Mulhu a b = a * b / 2 ^ 64
alu_of Div a b = quotient a b
alu_of Divu a b = quotient_u (2 ^ 64 - 1) a b
alu_of Rem a b = remainder a b
alu_of Remu a b = remainder_u a b
alu_of Mulw a b = sext32 ((a % 2 ^ 32 * (b % 2 ^ 32)) % 2 ^ 32)
alu_of Divw a b = quotient_word (a % 2 ^ 32) (b % 2 ^ 32)
alu_of Divuw a b = sext32 (quotient_u (2 ^ 32 - 1) (a % 2 ^ 32) (b % 2 ^ 32))
alu_of Remw a b = remainder_word (a % 2 ^ 32) (b % 2 ^ 32)
alu_of Remuw a b = sext32 (remainder_u (a % 2 ^ 32) (b % 2 ^ 32))

abbrev pub branch_of : BranchOp → ℕ → ℕ → Bool
branch_of Eq a b = nat_eq a b
branch_of Ne a b = not (nat_eq a b)
branch_of Lt a b = below a b
branch_of Ge a b = not (below a b)
branch_of Ltu a b = nat_lt a b
branch_of Geu a b = nat_le b a

abbrev pub amo_value : AmoOp → ℕ → ℕ → ℕ
amo_value Swap a b = b
amo_value AmoAdd a b = (a + b) % 2 ^ 64
amo_value AmoXor a b = bit_xor a b
amo_value AmoAnd a b = bit_and a b
amo_value AmoOr a b = bit_or a b
amo_value Min a b = if below b a then b else a
amo_value Max a b = if below a b then b else a
amo_value MinU a b = if nat_lt b a then b else a
amo_value MaxU a b = if nat_lt a b then b else a

-- by words both sources count by their low 32 bits, sign-extended: that keeps the signed and the unsigned order
abbrev pub amo_of : AmoOp → Width → ℕ → ℕ → ℕ
amo_of op Byte old src = amo_value op old src
amo_of op Halfword old src = amo_value op old src
amo_of op Word old src = sext32 (amo_value op (sext32 old) (sext32 src))
amo_of op Doubleword old src = amo_value op old src
