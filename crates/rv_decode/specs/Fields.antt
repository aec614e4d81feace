-- The fields of a 32-bit word. They are those of The RISC-V Instruction Set Manual, volume I, "Base Instruction Formats"
-- and "Immediate Encoding Variants".
use Rattle.std.specs.Prelude.{ℕ, ◌+◌, ◌-◌, ◌*◌, ◌/◌, ◌%◌, ◌^◌, ℤ, pos, negsuc, nat_lt, if◌then◌else◌}

-- the bits of a word from `low` on, `many` of them
abbrev pub bits_of : ℕ → ℕ → ℕ → ℕ
bits_of w low many = w / 2 ^ low % 2 ^ many

-- a number of k + 1 bits, read as a signed number
abbrev pub signed : ℕ → ℕ → ℤ
signed k n = if nat_lt n (2 ^ k) then pos n else negsuc (2 ^ (k + 1) - 1 - n)

-- registers, bits 11:7, 19:15 and 24:20
abbrev pub rd_of : ℕ → ℕ
rd_of w = bits_of w 7 5

abbrev pub rs1_of : ℕ → ℕ
rs1_of w = bits_of w 15 5

abbrev pub rs2_of : ℕ → ℕ
rs2_of w = bits_of w 20 5

-- the number of a control register, bits 31:20
abbrev pub csr_of : ℕ → ℕ
csr_of w = bits_of w 20 12

-- format I: bits 31:20
abbrev pub imm_i_of : ℕ → ℤ
imm_i_of w = signed 11 (bits_of w 20 12)

-- format S: bits 31:25 and 11:7
abbrev pub imm_s_of : ℕ → ℤ
imm_s_of w = signed 11 (bits_of w 25 7 * 2 ^ 5 + bits_of w 7 5)

-- format U: bits 31:12, times 4,096
abbrev pub imm_u_of : ℕ → ℤ
imm_u_of w = signed 31 (bits_of w 12 20 * 2 ^ 12)

-- format B: bit 12 is bit 31 of the word, bit 11 is 7, bits 10:5 are 30:25, bits 4:1 are 11:8
abbrev pub imm_b_of : ℕ → ℤ
imm_b_of w =
    signed 12 (bits_of w 31 1 * 2 ^ 12 + bits_of w 7 1 * 2 ^ 11 + bits_of w 25 6 * 2 ^ 5 + bits_of w 8 4 * 2 ^ 1)

-- format J: bit 20 is bit 31 of the word, bits 19:12 are 19:12, bit 11 is 20, bits 10:1 are 30:21
abbrev pub imm_j_of : ℕ → ℤ
imm_j_of w =
    signed 20 (bits_of w 31 1 * 2 ^ 20 + bits_of w 12 8 * 2 ^ 12 + bits_of w 20 1 * 2 ^ 11 + bits_of w 21 10 * 2 ^ 1)

-- the amount of a shift by a fixed amount, bits 25:20, or 24:20 in the 32-bit forms
abbrev pub shamt6_of : ℕ → ℤ
shamt6_of w = pos (bits_of w 20 6)

abbrev pub shamt5_of : ℕ → ℤ
shamt5_of w = pos (bits_of w 20 5)

-- the number in CSRRWI, CSRRSI and CSRRCI, bits 19:15
abbrev pub uimm_of : ℕ → ℤ
uimm_of w = pos (bits_of w 15 5)
