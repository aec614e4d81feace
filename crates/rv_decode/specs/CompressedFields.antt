-- The fields of a compressed instruction, a halfword. They are those of The RISC-V Instruction Set Manual, volume I,
-- "RVC Instruction Set Listings": each sum says which bits of the halfword stand at which place of the number.
use Rattle.std.specs.Prelude.{ℕ, ◌+◌, ◌*◌, ◌^◌, ℤ, pos}
use Rattle.rv_decode.specs.Fields.{bits_of, signed}

-- one of the registers 8 to 15, in bits 4:2 and in bits 9:7
abbrev pub low_of : ℕ → ℕ
low_of h = 8 + bits_of h 2 3

abbrev pub high_of : ℕ → ℕ
high_of h = 8 + bits_of h 7 3

-- any register, in bits 11:7 and in bits 6:2
abbrev pub full_of : ℕ → ℕ
full_of h = bits_of h 7 5

abbrev pub source_of : ℕ → ℕ
source_of h = bits_of h 2 5

-- C.ADDI4SPN: bits 12:5 hold 5:4, 9:6, 2, 3
abbrev pub stack_bits_of : ℕ → ℕ
stack_bits_of h = bits_of h 11 2 * 2 ^ 4 + bits_of h 7 4 * 2 ^ 6 + bits_of h 6 1 * 2 ^ 2 + bits_of h 5 1 * 2 ^ 3

abbrev pub stack_of : ℕ → ℤ
stack_of h = pos (stack_bits_of h)

-- C.LW and C.SW: bits 12:10 hold 5:3, bit 6 holds 2, bit 5 holds 6
abbrev pub word_offset_of : ℕ → ℤ
word_offset_of h = pos (bits_of h 10 3 * 2 ^ 3 + bits_of h 6 1 * 2 ^ 2 + bits_of h 5 1 * 2 ^ 6)

-- C.LD and C.SD: bits 12:10 hold 5:3, bits 6:5 hold 7:6
abbrev pub double_offset_of : ℕ → ℤ
double_offset_of h = pos (bits_of h 10 3 * 2 ^ 3 + bits_of h 5 2 * 2 ^ 6)

-- C.ADDI, C.ADDIW, C.LI and C.ANDI: bit 12 holds 5, bits 6:2 hold 4:0, signed
abbrev pub small_of : ℕ → ℤ
small_of h = signed 5 (bits_of h 12 1 * 2 ^ 5 + bits_of h 2 5)

-- C.ADDI16SP: bit 12 holds 9, bits 6:2 hold 4, 6, 8:7, 5, signed
abbrev pub frame_bits_of : ℕ → ℕ
frame_bits_of h =
    bits_of h 12 1 * 2 ^ 9 + bits_of h 6 1 * 2 ^ 4 + bits_of h 5 1 * 2 ^ 6 + bits_of h 3 2 * 2 ^ 7 + bits_of h 2 1 * 2 ^ 5

abbrev pub frame_offset_of : ℕ → ℤ
frame_offset_of h = signed 9 (frame_bits_of h)

-- C.LUI: bit 12 holds 17, bits 6:2 hold 16:12, signed
abbrev pub upper_bits_of : ℕ → ℕ
upper_bits_of h = bits_of h 12 1 * 2 ^ 17 + bits_of h 2 5 * 2 ^ 12

abbrev pub upper_of : ℕ → ℤ
upper_of h = signed 17 (upper_bits_of h)

-- C.SRLI, C.SRAI and C.SLLI: bit 12 holds 5, bits 6:2 hold 4:0
abbrev pub amount_of : ℕ → ℤ
amount_of h = pos (bits_of h 12 1 * 2 ^ 5 + bits_of h 2 5)

-- C.J: bits 12:2 hold 11, 4, 9:8, 10, 6, 7, 3:1, 5, signed
abbrev pub jump_of : ℕ → ℤ
jump_of h =
    signed 11 (bits_of h 12 1 * 2 ^ 11 + bits_of h 11 1 * 2 ^ 4 + bits_of h 9 2 * 2 ^ 8 + bits_of h 8 1 * 2 ^ 10
    + bits_of h 7 1 * 2 ^ 6 + bits_of h 6 1 * 2 ^ 7 + bits_of h 3 3 * 2 ^ 1 + bits_of h 2 1 * 2 ^ 5)

-- C.BEQZ and C.BNEZ: bits 12:10 hold 8, 4:3, bits 6:2 hold 7:6, 2:1, 5, signed
abbrev pub branch_offset_of : ℕ → ℤ
branch_offset_of h =
    signed 8 (bits_of h 12 1 * 2 ^ 8 + bits_of h 10 2 * 2 ^ 3 + bits_of h 5 2 * 2 ^ 6 + bits_of h 3 2 * 2 ^ 1 + bits_of h 2 1 * 2 ^ 5)

-- C.LWSP: bit 12 holds 5, bits 6:2 hold 4:2, 7:6
abbrev pub word_slot_of : ℕ → ℤ
word_slot_of h = pos (bits_of h 12 1 * 2 ^ 5 + bits_of h 4 3 * 2 ^ 2 + bits_of h 2 2 * 2 ^ 6)

-- C.LDSP: bit 12 holds 5, bits 6:2 hold 4:3, 8:6
abbrev pub double_slot_of : ℕ → ℤ
double_slot_of h = pos (bits_of h 12 1 * 2 ^ 5 + bits_of h 5 2 * 2 ^ 3 + bits_of h 2 3 * 2 ^ 6)

-- C.SWSP: bits 12:7 hold 5:2, 7:6
abbrev pub word_place_of : ℕ → ℤ
word_place_of h = pos (bits_of h 9 4 * 2 ^ 2 + bits_of h 7 2 * 2 ^ 6)

-- C.SDSP: bits 12:7 hold 5:3, 8:6
abbrev pub double_place_of : ℕ → ℤ
double_place_of h = pos (bits_of h 10 3 * 2 ^ 3 + bits_of h 7 3 * 2 ^ 6)
