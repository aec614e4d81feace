-- The 32-bit word of an instruction: its row's value with the fields in the bits of its format, all other bits 0. The
-- formats are those of The RISC-V Instruction Set Manual, volume I, "Base Instruction Formats".
use Rattle.std.specs.Prelude.{ℕ, ◌+◌, ◌-◌, ◌*◌, ◌%◌, ◌^◌, ℤ, pos, negsuc, nat_lt, nat_eq, if◌then◌else◌, Bool, false, ◌&&◌, Option, Some, None}
use Rattle.rv_decode.specs.declared.Inst.{Inst}
use Rattle.rv_decode.specs.declared.Inst.TheVariants.{Lui, Auipc, Jal, Jalr, Beq, Bne, Blt, Bge, Bltu, Bgeu, Lb, Lh, Lw, Ld, Lbu, Lhu, Lwu, Sb, Sh, Sw, Sd, Addi, Slti, Sltiu, Xori, Ori, Andi, Addiw, Slli, Srli, Srai, Slliw, Srliw, Sraiw, Add, Sub, Sll, Slt, Sltu, Xor, Srl, Sra, Or, And, Addw, Subw, Sllw, Srlw, Sraw, Mul, Mulh, Mulhsu, Mulhu, Div, Divu, Rem, Remu, Mulw, Divw, Divuw, Remw, Remuw, Fence, FenceI, Ecall, Ebreak, Sret, Wfi, SfenceVma, Csrrw, Csrrs, Csrrc, Csrrwi, Csrrsi, Csrrci, LrW, ScW, AmoswapW, AmoaddW, AmoxorW, AmoandW, AmoorW, AmominW, AmomaxW, AmominuW, AmomaxuW, LrD, ScD, AmoswapD, AmoaddD, AmoxorD, AmoandD, AmoorD, AmominD, AmomaxD, AmominuD, AmomaxuD}
use Rattle.rv_decode.specs.Fields.{bits_of}

-- whether k bits and a sign hold a number
abbrev pub fits_signed : ℕ → ℤ → Bool
fits_signed k (pos n) = nat_lt n (2 ^ k)
fits_signed k (negsuc n) = nat_lt n (2 ^ k)

-- the k + 1 bits of such a number
abbrev pub wrapped : ℕ → ℤ → ℕ
wrapped k (pos n) = n
wrapped k (negsuc n) = 2 ^ (k + 1) - 1 - n

-- whether k bits without a sign hold a number
abbrev pub fits_plain : ℕ → ℤ → Bool
fits_plain k (pos n) = nat_lt n (2 ^ k)
fits_plain k (negsuc n) = false

-- such a number
abbrev pub plain_number : ℤ → ℕ
plain_number (pos n) = n
plain_number (negsuc n) = 0

abbrev pub is_register : ℕ → Bool
is_register r = nat_lt r 32

-- the bits of an immediate of format B at their places in the word; below, of formats S and J
abbrev pub b_put : ℕ → ℕ
b_put n = bits_of n 12 1 * 2 ^ 31 + bits_of n 11 1 * 2 ^ 7 + bits_of n 5 6 * 2 ^ 25 + bits_of n 1 4 * 2 ^ 8

abbrev pub s_put : ℕ → ℕ
s_put n = bits_of n 5 7 * 2 ^ 25 + bits_of n 0 5 * 2 ^ 7

abbrev pub j_put : ℕ → ℕ
j_put n = bits_of n 20 1 * 2 ^ 31 + bits_of n 12 8 * 2 ^ 12 + bits_of n 11 1 * 2 ^ 20 + bits_of n 1 10 * 2 ^ 21

-- format U: LUI and AUIPC
abbrev pub word_u : ℕ → ℕ → ℤ → Option ℕ
word_u v rd imm =
    if is_register rd && (fits_signed 31 imm && (nat_eq (wrapped 31 imm % 2 ^ 12) 0))
    then Some (v + rd * 2 ^ 7 + wrapped 31 imm) else None

-- format J: JAL
abbrev pub word_j : ℕ → ℕ → ℤ → Option ℕ
word_j v rd imm =
    if is_register rd && (fits_signed 20 imm && (nat_eq (wrapped 20 imm % 2) 0))
    then Some (v + rd * 2 ^ 7 + j_put (wrapped 20 imm)) else None

-- format I: JALR, loads and operations with an immediate
abbrev pub word_i : ℕ → ℕ → ℕ → ℤ → Option ℕ
word_i v rd rs1 imm =
    if is_register rd && (is_register rs1 && (fits_signed 11 imm))
    then Some (v + rd * 2 ^ 7 + rs1 * 2 ^ 15 + wrapped 11 imm * 2 ^ 20) else None

-- format B: branches
abbrev pub word_b : ℕ → ℕ → ℕ → ℤ → Option ℕ
word_b v rs1 rs2 imm =
    if is_register rs1 && (is_register rs2 && (fits_signed 12 imm && (nat_eq (wrapped 12 imm % 2) 0)))
    then Some (v + rs1 * 2 ^ 15 + rs2 * 2 ^ 20 + b_put (wrapped 12 imm)) else None

-- format S: stores
abbrev pub word_s : ℕ → ℕ → ℕ → ℤ → Option ℕ
word_s v rs1 rs2 imm =
    if is_register rs1 && (is_register rs2 && (fits_signed 11 imm))
    then Some (v + rs1 * 2 ^ 15 + rs2 * 2 ^ 20 + s_put (wrapped 11 imm)) else None

-- shifts by a fixed amount
abbrev pub word_s6 : ℕ → ℕ → ℕ → ℤ → Option ℕ
word_s6 v rd rs1 imm =
    if is_register rd && (is_register rs1 && (fits_plain 6 imm))
    then Some (v + rd * 2 ^ 7 + rs1 * 2 ^ 15 + plain_number imm * 2 ^ 20) else None

-- 32-bit shifts by a fixed amount
abbrev pub word_s5 : ℕ → ℕ → ℕ → ℤ → Option ℕ
word_s5 v rd rs1 imm =
    if is_register rd && (is_register rs1 && (fits_plain 5 imm))
    then Some (v + rd * 2 ^ 7 + rs1 * 2 ^ 15 + plain_number imm * 2 ^ 20) else None

-- format R: operations on registers
abbrev pub word_r : ℕ → ℕ → ℕ → ℕ → Option ℕ
word_r v rd rs1 rs2 =
    if is_register rd && (is_register rs1 && (is_register rs2))
    then Some (v + rd * 2 ^ 7 + rs1 * 2 ^ 15 + rs2 * 2 ^ 20) else None

-- SFENCE.VMA
abbrev pub word_v : ℕ → ℕ → ℕ → Option ℕ
word_v v rs1 rs2 =
    if is_register rs1 && (is_register rs2)
    then Some (v + rs1 * 2 ^ 15 + rs2 * 2 ^ 20) else None

-- accesses of a control register by a register
abbrev pub word_c : ℕ → ℕ → ℕ → ℕ → Option ℕ
word_c v rd rs1 csr =
    if is_register rd && (is_register rs1 && (nat_lt csr (2 ^ 12)))
    then Some (v + rd * 2 ^ 7 + rs1 * 2 ^ 15 + csr * 2 ^ 20) else None

-- accesses of a control register by a number
abbrev pub word_ci : ℕ → ℕ → ℤ → ℕ → Option ℕ
word_ci v rd imm csr =
    if is_register rd && (fits_plain 5 imm && (nat_lt csr (2 ^ 12)))
    then Some (v + rd * 2 ^ 7 + plain_number imm * 2 ^ 15 + csr * 2 ^ 20) else None

-- load-reserved
abbrev pub word_l : ℕ → ℕ → ℕ → Option ℕ
word_l v rd rs1 =
    if is_register rd && (is_register rs1)
    then Some (v + rd * 2 ^ 7 + rs1 * 2 ^ 15) else None

-- store-conditional and atomic memory operations
abbrev pub word_a : ℕ → ℕ → ℕ → ℕ → Option ℕ
word_a v rd rs1 rs2 =
    if is_register rd && (is_register rs1 && (is_register rs2))
    then Some (v + rd * 2 ^ 7 + rs1 * 2 ^ 15 + rs2 * 2 ^ 20) else None

-- the word of an instruction, None where a field is out of its range
unfoldable pub encode_of : Inst → Option ℕ
encode_of (Lui rd imm) = word_u 0x37 rd imm
encode_of (Auipc rd imm) = word_u 0x17 rd imm
encode_of (Jal rd imm) = word_j 0x6f rd imm
encode_of (Jalr rd rs1 imm) = word_i 0x67 rd rs1 imm
encode_of (Beq rs1 rs2 imm) = word_b 0x63 rs1 rs2 imm
encode_of (Bne rs1 rs2 imm) = word_b 0x1063 rs1 rs2 imm
encode_of (Blt rs1 rs2 imm) = word_b 0x4063 rs1 rs2 imm
encode_of (Bge rs1 rs2 imm) = word_b 0x5063 rs1 rs2 imm
encode_of (Bltu rs1 rs2 imm) = word_b 0x6063 rs1 rs2 imm
encode_of (Bgeu rs1 rs2 imm) = word_b 0x7063 rs1 rs2 imm
encode_of (Lb rd rs1 imm) = word_i 0x3 rd rs1 imm
encode_of (Lh rd rs1 imm) = word_i 0x1003 rd rs1 imm
encode_of (Lw rd rs1 imm) = word_i 0x2003 rd rs1 imm
encode_of (Ld rd rs1 imm) = word_i 0x3003 rd rs1 imm
encode_of (Lbu rd rs1 imm) = word_i 0x4003 rd rs1 imm
encode_of (Lhu rd rs1 imm) = word_i 0x5003 rd rs1 imm
encode_of (Lwu rd rs1 imm) = word_i 0x6003 rd rs1 imm
encode_of (Sb rs1 rs2 imm) = word_s 0x23 rs1 rs2 imm
encode_of (Sh rs1 rs2 imm) = word_s 0x1023 rs1 rs2 imm
encode_of (Sw rs1 rs2 imm) = word_s 0x2023 rs1 rs2 imm
encode_of (Sd rs1 rs2 imm) = word_s 0x3023 rs1 rs2 imm
encode_of (Addi rd rs1 imm) = word_i 0x13 rd rs1 imm
encode_of (Slti rd rs1 imm) = word_i 0x2013 rd rs1 imm
encode_of (Sltiu rd rs1 imm) = word_i 0x3013 rd rs1 imm
encode_of (Xori rd rs1 imm) = word_i 0x4013 rd rs1 imm
encode_of (Ori rd rs1 imm) = word_i 0x6013 rd rs1 imm
encode_of (Andi rd rs1 imm) = word_i 0x7013 rd rs1 imm
encode_of (Addiw rd rs1 imm) = word_i 0x1b rd rs1 imm
encode_of (Slli rd rs1 imm) = word_s6 0x1013 rd rs1 imm
encode_of (Srli rd rs1 imm) = word_s6 0x5013 rd rs1 imm
encode_of (Srai rd rs1 imm) = word_s6 0x40005013 rd rs1 imm
encode_of (Slliw rd rs1 imm) = word_s5 0x101b rd rs1 imm
encode_of (Srliw rd rs1 imm) = word_s5 0x501b rd rs1 imm
encode_of (Sraiw rd rs1 imm) = word_s5 0x4000501b rd rs1 imm
encode_of (Add rd rs1 rs2) = word_r 0x33 rd rs1 rs2
encode_of (Sub rd rs1 rs2) = word_r 0x40000033 rd rs1 rs2
encode_of (Sll rd rs1 rs2) = word_r 0x1033 rd rs1 rs2
encode_of (Slt rd rs1 rs2) = word_r 0x2033 rd rs1 rs2
encode_of (Sltu rd rs1 rs2) = word_r 0x3033 rd rs1 rs2
encode_of (Xor rd rs1 rs2) = word_r 0x4033 rd rs1 rs2
encode_of (Srl rd rs1 rs2) = word_r 0x5033 rd rs1 rs2
encode_of (Sra rd rs1 rs2) = word_r 0x40005033 rd rs1 rs2
encode_of (Or rd rs1 rs2) = word_r 0x6033 rd rs1 rs2
encode_of (And rd rs1 rs2) = word_r 0x7033 rd rs1 rs2
encode_of (Addw rd rs1 rs2) = word_r 0x3b rd rs1 rs2
encode_of (Subw rd rs1 rs2) = word_r 0x4000003b rd rs1 rs2
encode_of (Sllw rd rs1 rs2) = word_r 0x103b rd rs1 rs2
encode_of (Srlw rd rs1 rs2) = word_r 0x503b rd rs1 rs2
encode_of (Sraw rd rs1 rs2) = word_r 0x4000503b rd rs1 rs2
encode_of (Mul rd rs1 rs2) = word_r 0x2000033 rd rs1 rs2
encode_of (Mulh rd rs1 rs2) = word_r 0x2001033 rd rs1 rs2
encode_of (Mulhsu rd rs1 rs2) = word_r 0x2002033 rd rs1 rs2
encode_of (Mulhu rd rs1 rs2) = word_r 0x2003033 rd rs1 rs2
encode_of (Div rd rs1 rs2) = word_r 0x2004033 rd rs1 rs2
encode_of (Divu rd rs1 rs2) = word_r 0x2005033 rd rs1 rs2
encode_of (Rem rd rs1 rs2) = word_r 0x2006033 rd rs1 rs2
encode_of (Remu rd rs1 rs2) = word_r 0x2007033 rd rs1 rs2
encode_of (Mulw rd rs1 rs2) = word_r 0x200003b rd rs1 rs2
encode_of (Divw rd rs1 rs2) = word_r 0x200403b rd rs1 rs2
encode_of (Divuw rd rs1 rs2) = word_r 0x200503b rd rs1 rs2
encode_of (Remw rd rs1 rs2) = word_r 0x200603b rd rs1 rs2
encode_of (Remuw rd rs1 rs2) = word_r 0x200703b rd rs1 rs2
encode_of Fence = Some 0xf
encode_of FenceI = Some 0x100f
encode_of Ecall = Some 0x73
encode_of Ebreak = Some 0x100073
encode_of Sret = Some 0x10200073
encode_of Wfi = Some 0x10500073
encode_of (SfenceVma rs1 rs2) = word_v 0x12000073 rs1 rs2
encode_of (Csrrw rd rs1 csr) = word_c 0x1073 rd rs1 csr
encode_of (Csrrs rd rs1 csr) = word_c 0x2073 rd rs1 csr
encode_of (Csrrc rd rs1 csr) = word_c 0x3073 rd rs1 csr
encode_of (Csrrwi rd imm csr) = word_ci 0x5073 rd imm csr
encode_of (Csrrsi rd imm csr) = word_ci 0x6073 rd imm csr
encode_of (Csrrci rd imm csr) = word_ci 0x7073 rd imm csr
encode_of (LrW rd rs1) = word_l 0x1000202f rd rs1
encode_of (ScW rd rs1 rs2) = word_a 0x1800202f rd rs1 rs2
encode_of (AmoswapW rd rs1 rs2) = word_a 0x800202f rd rs1 rs2
encode_of (AmoaddW rd rs1 rs2) = word_a 0x202f rd rs1 rs2
encode_of (AmoxorW rd rs1 rs2) = word_a 0x2000202f rd rs1 rs2
encode_of (AmoandW rd rs1 rs2) = word_a 0x6000202f rd rs1 rs2
encode_of (AmoorW rd rs1 rs2) = word_a 0x4000202f rd rs1 rs2
encode_of (AmominW rd rs1 rs2) = word_a 0x8000202f rd rs1 rs2
encode_of (AmomaxW rd rs1 rs2) = word_a 0xa000202f rd rs1 rs2
encode_of (AmominuW rd rs1 rs2) = word_a 0xc000202f rd rs1 rs2
encode_of (AmomaxuW rd rs1 rs2) = word_a 0xe000202f rd rs1 rs2
encode_of (LrD rd rs1) = word_l 0x1000302f rd rs1
encode_of (ScD rd rs1 rs2) = word_a 0x1800302f rd rs1 rs2
encode_of (AmoswapD rd rs1 rs2) = word_a 0x800302f rd rs1 rs2
encode_of (AmoaddD rd rs1 rs2) = word_a 0x302f rd rs1 rs2
encode_of (AmoxorD rd rs1 rs2) = word_a 0x2000302f rd rs1 rs2
encode_of (AmoandD rd rs1 rs2) = word_a 0x6000302f rd rs1 rs2
encode_of (AmoorD rd rs1 rs2) = word_a 0x4000302f rd rs1 rs2
encode_of (AmominD rd rs1 rs2) = word_a 0x8000302f rd rs1 rs2
encode_of (AmomaxD rd rs1 rs2) = word_a 0xa000302f rd rs1 rs2
encode_of (AmominuD rd rs1 rs2) = word_a 0xc000302f rd rs1 rs2
encode_of (AmomaxuD rd rs1 rs2) = word_a 0xe000302f rd rs1 rs2
