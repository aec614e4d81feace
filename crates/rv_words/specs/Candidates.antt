-- The one halfword that can be the least of an instruction; 0 where there is none. Where it does not mean the
-- instruction, no halfword does: that is computed over all 65,536, so nothing rests on this table but that.
use Rattle.std.specs.Prelude.{ℕ, ◌+◌, ◌-◌, ◌*◌, ◌%◌, ◌^◌, ℤ, pos, negsuc, nat_lt, nat_le, nat_eq, if◌then◌else◌, Bool, ◌&&◌, ◌||◌}
use Rattle.rv_decode.specs.declared.Inst.{Inst}
use Rattle.rv_decode.specs.declared.Inst.TheVariants.{Addi, Addiw, Lui, Lw, Ld, Sw, Sd, Srli, Srai, Slli, Andi, Sub, Xor, Or, And, Subw, Addw, Jal, Jalr, Beq, Bne, Add, Ebreak}
use Rattle.rv_decode.specs.Fields.{bits_of}

-- the low 20 bits of an immediate
abbrev pub pattern_of : ℤ → ℕ
pattern_of (pos n) = n % 2 ^ 20
pattern_of (negsuc n) = 2 ^ 20 - 1 - n % 2 ^ 20

-- a register in bits 11:7, in bits 6:2, and those of three bits in bits 4:2 and in bits 9:7
abbrev pub at_7 : ℕ → ℕ
at_7 r = r % 2 ^ 5 * 2 ^ 7

abbrev pub at_2 : ℕ → ℕ
at_2 r = r % 2 ^ 5 * 2 ^ 2

abbrev pub low_at : ℕ → ℕ
low_at r = r % 2 ^ 3 * 2 ^ 2

abbrev pub high_at : ℕ → ℕ
high_at r = r % 2 ^ 3 * 2 ^ 7

-- an immediate in the bits of its form
abbrev pub small_put : ℕ → ℕ
small_put n = bits_of n 5 1 * 2 ^ 12 + bits_of n 0 5 * 2 ^ 2

abbrev pub stack_put : ℕ → ℕ
stack_put n = bits_of n 4 2 * 2 ^ 11 + bits_of n 6 4 * 2 ^ 7 + bits_of n 2 1 * 2 ^ 6 + bits_of n 3 1 * 2 ^ 5

abbrev pub frame_put : ℕ → ℕ
frame_put n = bits_of n 9 1 * 2 ^ 12 + bits_of n 4 1 * 2 ^ 6 + bits_of n 6 1 * 2 ^ 5 + bits_of n 7 2 * 2 ^ 3 + bits_of n 5 1 * 2 ^ 2

abbrev pub upper_put : ℕ → ℕ
upper_put n = bits_of n 17 1 * 2 ^ 12 + bits_of n 12 5 * 2 ^ 2

abbrev pub word_put : ℕ → ℕ
word_put n = bits_of n 3 3 * 2 ^ 10 + bits_of n 2 1 * 2 ^ 6 + bits_of n 6 1 * 2 ^ 5

abbrev pub double_put : ℕ → ℕ
double_put n = bits_of n 3 3 * 2 ^ 10 + bits_of n 6 2 * 2 ^ 5

abbrev pub word_slot_put : ℕ → ℕ
word_slot_put n = bits_of n 5 1 * 2 ^ 12 + bits_of n 2 3 * 2 ^ 4 + bits_of n 6 2 * 2 ^ 2

abbrev pub double_slot_put : ℕ → ℕ
double_slot_put n = bits_of n 5 1 * 2 ^ 12 + bits_of n 3 2 * 2 ^ 5 + bits_of n 6 3 * 2 ^ 2

abbrev pub word_place_put : ℕ → ℕ
word_place_put n = bits_of n 2 4 * 2 ^ 9 + bits_of n 6 2 * 2 ^ 7

abbrev pub double_place_put : ℕ → ℕ
double_place_put n = bits_of n 3 3 * 2 ^ 10 + bits_of n 6 3 * 2 ^ 7

abbrev pub jump_put : ℕ → ℕ
jump_put n = bits_of n 11 1 * 2 ^ 12 + bits_of n 4 1 * 2 ^ 11 + bits_of n 8 2 * 2 ^ 9 + bits_of n 10 1 * 2 ^ 8 + bits_of n 6 1 * 2 ^ 7 + bits_of n 7 1 * 2 ^ 6 + bits_of n 1 3 * 2 ^ 3 + bits_of n 5 1 * 2 ^ 2

abbrev pub branch_put : ℕ → ℕ
branch_put n = bits_of n 8 1 * 2 ^ 12 + bits_of n 3 2 * 2 ^ 10 + bits_of n 6 2 * 2 ^ 5 + bits_of n 1 2 * 2 ^ 3 + bits_of n 5 1 * 2 ^ 2

-- six bits and a sign hold the number with this pattern
abbrev pub is_small : ℕ → Bool
is_small n = nat_lt n 32 || nat_le (2 ^ 20 - 32) n

-- ADDI has four compressed forms
abbrev pub try_addi : ℕ → ℕ → ℕ → ℕ
try_addi rd rs1 n =
    if nat_eq rd rs1 && is_small n then 1 + at_7 rd + small_put n
    else if nat_eq rs1 0 then 0x4001 + at_7 rd + small_put n
    else if nat_eq rd 2 then 0x6101 + frame_put n
    else low_at rd + stack_put n

-- the candidate, by the rows of the compressed instructions
unfoldable pub candidate_of : Inst → ℕ
candidate_of (Addi rd rs1 z) = try_addi rd rs1 (pattern_of z)
candidate_of (Addiw rd rs1 z) = 0x2001 + at_7 rd + small_put (pattern_of z)
candidate_of (Lui rd z) = 0x6001 + at_7 rd + upper_put (pattern_of z)
candidate_of (Lw rd rs1 z) = if nat_eq rs1 2 then 0x4002 + at_7 rd + word_slot_put (pattern_of z) else 0x4000 + low_at rd + high_at rs1 + word_put (pattern_of z)
candidate_of (Ld rd rs1 z) = if nat_eq rs1 2 then 0x6002 + at_7 rd + double_slot_put (pattern_of z) else 0x6000 + low_at rd + high_at rs1 + double_put (pattern_of z)
candidate_of (Sw rs1 rs2 z) = if nat_eq rs1 2 then 0xc002 + at_2 rs2 + word_place_put (pattern_of z) else 0xc000 + low_at rs2 + high_at rs1 + word_put (pattern_of z)
candidate_of (Sd rs1 rs2 z) = if nat_eq rs1 2 then 0xe002 + at_2 rs2 + double_place_put (pattern_of z) else 0xe000 + low_at rs2 + high_at rs1 + double_put (pattern_of z)
candidate_of (Srli rd rs1 z) = 0x8001 + high_at rd + small_put (pattern_of z)
candidate_of (Srai rd rs1 z) = 0x8401 + high_at rd + small_put (pattern_of z)
candidate_of (Andi rd rs1 z) = 0x8801 + high_at rd + small_put (pattern_of z)
candidate_of (Slli rd rs1 z) = 0x0002 + at_7 rd + small_put (pattern_of z)
candidate_of (Sub rd rs1 rs2) = 0x8c01 + high_at rd + low_at rs2
candidate_of (Xor rd rs1 rs2) = 0x8c21 + high_at rd + low_at rs2
candidate_of (Or rd rs1 rs2) = 0x8c41 + high_at rd + low_at rs2
candidate_of (And rd rs1 rs2) = 0x8c61 + high_at rd + low_at rs2
candidate_of (Subw rd rs1 rs2) = 0x9c01 + high_at rd + low_at rs2
candidate_of (Addw rd rs1 rs2) = 0x9c21 + high_at rd + low_at rs2
candidate_of (Jal rd z) = 0xa001 + jump_put (pattern_of z)
candidate_of (Beq rs1 rs2 z) = 0xc001 + high_at rs1 + branch_put (pattern_of z)
candidate_of (Bne rs1 rs2 z) = 0xe001 + high_at rs1 + branch_put (pattern_of z)
candidate_of (Jalr rd rs1 z) = if nat_eq rd 0 then 0x8002 + at_7 rs1 else 0x9002 + at_7 rs1
candidate_of (Add rd rs1 rs2) = if nat_eq rs1 0 then 0x8002 + at_7 rd + at_2 rs2 else 0x9002 + at_7 rd + at_2 rs2
candidate_of Ebreak = 0x9002
candidate_of _ = 0
