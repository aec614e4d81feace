-- The range of each field of an instruction, by the width of the bits that hold it in the 32-bit formats of The RISC-V
-- Instruction Set Manual, volume I, "Base Instruction Formats" and "Immediate Encoding Variants".
use Rattle.std.specs.Prelude.{◌≡◌, ℕ, ◌-◌, ◌%◌, ◌^◌, ◌<◌, ℤ, pos, negsuc}
use Rattle.rv_decode.specs.declared.Inst.{Inst}
use Rattle.rv_decode.specs.declared.Inst.TheVariants.{Lui, Auipc, Jal, Jalr, Beq, Bne, Blt, Bge, Bltu, Bgeu, Lb, Lh, Lw, Ld, Lbu, Lhu, Lwu, Sb, Sh, Sw, Sd, Addi, Slti, Sltiu, Xori, Ori, Andi, Addiw, Slli, Srli, Srai, Slliw, Srliw, Sraiw, Add, Sub, Sll, Slt, Sltu, Xor, Srl, Sra, Or, And, Addw, Subw, Sllw, Srlw, Sraw, Mul, Mulh, Mulhsu, Mulhu, Div, Divu, Rem, Remu, Mulw, Divw, Divuw, Remw, Remuw, Fence, FenceI, Ecall, Ebreak, Sret, Wfi, SfenceVma, Csrrw, Csrrs, Csrrc, Csrrwi, Csrrsi, Csrrci, LrW, ScW, AmoswapW, AmoaddW, AmoxorW, AmoandW, AmoorW, AmominW, AmomaxW, AmominuW, AmomaxuW, LrD, ScD, AmoswapD, AmoaddD, AmoxorD, AmoandD, AmoorD, AmominD, AmomaxD, AmominuD, AmomaxuD}

-- k bits and a sign hold the number: it is at least -2 ^ k, and below 2 ^ k
abbrev pub IsBelow : ℕ → ℤ → Type 0
IsBelow k (pos n) = n < 2 ^ k
IsBelow k (negsuc n) = n < 2 ^ k

-- k bits with no sign hold the number
abbrev pub IsPlain : ℕ → ℤ → Type 0
IsPlain k (pos n) = n < 2 ^ k
IsPlain k (negsuc n) = ⊥

abbrev pub IsEven : ℤ → Type 0
IsEven (pos n) = n % 2 ≡ 0
IsEven (negsuc n) = n % 2 ≡ 1

-- 31 bits and a sign hold the number, and it is a multiple of 4,096
abbrev pub IsUpper : ℤ → Type 0
IsUpper (pos n) = (n < 2 ^ 31) × (n % 2 ^ 12 ≡ 0)
IsUpper (negsuc n) = (n < 2 ^ 31) × (n % 2 ^ 12 ≡ 2 ^ 12 - 1)

-- each field is in its range
unfoldable pub FieldsFit : Inst → Type 0
FieldsFit (Lui rd imm) = (rd < 32) × IsUpper imm
FieldsFit (Auipc rd imm) = (rd < 32) × IsUpper imm
FieldsFit (Jal rd imm) = (rd < 32) × (IsBelow 20 imm × IsEven imm)
FieldsFit (Jalr rd rs1 imm) = (rd < 32) × ((rs1 < 32) × IsBelow 11 imm)
FieldsFit (Beq rs1 rs2 imm) = (rs1 < 32) × ((rs2 < 32) × (IsBelow 12 imm × IsEven imm))
FieldsFit (Bne rs1 rs2 imm) = (rs1 < 32) × ((rs2 < 32) × (IsBelow 12 imm × IsEven imm))
FieldsFit (Blt rs1 rs2 imm) = (rs1 < 32) × ((rs2 < 32) × (IsBelow 12 imm × IsEven imm))
FieldsFit (Bge rs1 rs2 imm) = (rs1 < 32) × ((rs2 < 32) × (IsBelow 12 imm × IsEven imm))
FieldsFit (Bltu rs1 rs2 imm) = (rs1 < 32) × ((rs2 < 32) × (IsBelow 12 imm × IsEven imm))
FieldsFit (Bgeu rs1 rs2 imm) = (rs1 < 32) × ((rs2 < 32) × (IsBelow 12 imm × IsEven imm))
FieldsFit (Lb rd rs1 imm) = (rd < 32) × ((rs1 < 32) × IsBelow 11 imm)
FieldsFit (Lh rd rs1 imm) = (rd < 32) × ((rs1 < 32) × IsBelow 11 imm)
FieldsFit (Lw rd rs1 imm) = (rd < 32) × ((rs1 < 32) × IsBelow 11 imm)
FieldsFit (Ld rd rs1 imm) = (rd < 32) × ((rs1 < 32) × IsBelow 11 imm)
FieldsFit (Lbu rd rs1 imm) = (rd < 32) × ((rs1 < 32) × IsBelow 11 imm)
FieldsFit (Lhu rd rs1 imm) = (rd < 32) × ((rs1 < 32) × IsBelow 11 imm)
FieldsFit (Lwu rd rs1 imm) = (rd < 32) × ((rs1 < 32) × IsBelow 11 imm)
FieldsFit (Sb rs1 rs2 imm) = (rs1 < 32) × ((rs2 < 32) × IsBelow 11 imm)
FieldsFit (Sh rs1 rs2 imm) = (rs1 < 32) × ((rs2 < 32) × IsBelow 11 imm)
FieldsFit (Sw rs1 rs2 imm) = (rs1 < 32) × ((rs2 < 32) × IsBelow 11 imm)
FieldsFit (Sd rs1 rs2 imm) = (rs1 < 32) × ((rs2 < 32) × IsBelow 11 imm)
FieldsFit (Addi rd rs1 imm) = (rd < 32) × ((rs1 < 32) × IsBelow 11 imm)
FieldsFit (Slti rd rs1 imm) = (rd < 32) × ((rs1 < 32) × IsBelow 11 imm)
FieldsFit (Sltiu rd rs1 imm) = (rd < 32) × ((rs1 < 32) × IsBelow 11 imm)
FieldsFit (Xori rd rs1 imm) = (rd < 32) × ((rs1 < 32) × IsBelow 11 imm)
FieldsFit (Ori rd rs1 imm) = (rd < 32) × ((rs1 < 32) × IsBelow 11 imm)
FieldsFit (Andi rd rs1 imm) = (rd < 32) × ((rs1 < 32) × IsBelow 11 imm)
FieldsFit (Addiw rd rs1 imm) = (rd < 32) × ((rs1 < 32) × IsBelow 11 imm)
FieldsFit (Slli rd rs1 imm) = (rd < 32) × ((rs1 < 32) × IsPlain 6 imm)
FieldsFit (Srli rd rs1 imm) = (rd < 32) × ((rs1 < 32) × IsPlain 6 imm)
FieldsFit (Srai rd rs1 imm) = (rd < 32) × ((rs1 < 32) × IsPlain 6 imm)
FieldsFit (Slliw rd rs1 imm) = (rd < 32) × ((rs1 < 32) × IsPlain 5 imm)
FieldsFit (Srliw rd rs1 imm) = (rd < 32) × ((rs1 < 32) × IsPlain 5 imm)
FieldsFit (Sraiw rd rs1 imm) = (rd < 32) × ((rs1 < 32) × IsPlain 5 imm)
FieldsFit (Add rd rs1 rs2) = (rd < 32) × ((rs1 < 32) × (rs2 < 32))
FieldsFit (Sub rd rs1 rs2) = (rd < 32) × ((rs1 < 32) × (rs2 < 32))
FieldsFit (Sll rd rs1 rs2) = (rd < 32) × ((rs1 < 32) × (rs2 < 32))
FieldsFit (Slt rd rs1 rs2) = (rd < 32) × ((rs1 < 32) × (rs2 < 32))
FieldsFit (Sltu rd rs1 rs2) = (rd < 32) × ((rs1 < 32) × (rs2 < 32))
FieldsFit (Xor rd rs1 rs2) = (rd < 32) × ((rs1 < 32) × (rs2 < 32))
FieldsFit (Srl rd rs1 rs2) = (rd < 32) × ((rs1 < 32) × (rs2 < 32))
FieldsFit (Sra rd rs1 rs2) = (rd < 32) × ((rs1 < 32) × (rs2 < 32))
FieldsFit (Or rd rs1 rs2) = (rd < 32) × ((rs1 < 32) × (rs2 < 32))
FieldsFit (And rd rs1 rs2) = (rd < 32) × ((rs1 < 32) × (rs2 < 32))
FieldsFit (Addw rd rs1 rs2) = (rd < 32) × ((rs1 < 32) × (rs2 < 32))
FieldsFit (Subw rd rs1 rs2) = (rd < 32) × ((rs1 < 32) × (rs2 < 32))
FieldsFit (Sllw rd rs1 rs2) = (rd < 32) × ((rs1 < 32) × (rs2 < 32))
FieldsFit (Srlw rd rs1 rs2) = (rd < 32) × ((rs1 < 32) × (rs2 < 32))
FieldsFit (Sraw rd rs1 rs2) = (rd < 32) × ((rs1 < 32) × (rs2 < 32))
FieldsFit (Mul rd rs1 rs2) = (rd < 32) × ((rs1 < 32) × (rs2 < 32))
FieldsFit (Mulh rd rs1 rs2) = (rd < 32) × ((rs1 < 32) × (rs2 < 32))
FieldsFit (Mulhsu rd rs1 rs2) = (rd < 32) × ((rs1 < 32) × (rs2 < 32))
FieldsFit (Mulhu rd rs1 rs2) = (rd < 32) × ((rs1 < 32) × (rs2 < 32))
FieldsFit (Div rd rs1 rs2) = (rd < 32) × ((rs1 < 32) × (rs2 < 32))
FieldsFit (Divu rd rs1 rs2) = (rd < 32) × ((rs1 < 32) × (rs2 < 32))
FieldsFit (Rem rd rs1 rs2) = (rd < 32) × ((rs1 < 32) × (rs2 < 32))
FieldsFit (Remu rd rs1 rs2) = (rd < 32) × ((rs1 < 32) × (rs2 < 32))
FieldsFit (Mulw rd rs1 rs2) = (rd < 32) × ((rs1 < 32) × (rs2 < 32))
FieldsFit (Divw rd rs1 rs2) = (rd < 32) × ((rs1 < 32) × (rs2 < 32))
FieldsFit (Divuw rd rs1 rs2) = (rd < 32) × ((rs1 < 32) × (rs2 < 32))
FieldsFit (Remw rd rs1 rs2) = (rd < 32) × ((rs1 < 32) × (rs2 < 32))
FieldsFit (Remuw rd rs1 rs2) = (rd < 32) × ((rs1 < 32) × (rs2 < 32))
FieldsFit Fence = Unit {0}
FieldsFit FenceI = Unit {0}
FieldsFit Ecall = Unit {0}
FieldsFit Ebreak = Unit {0}
FieldsFit Sret = Unit {0}
FieldsFit Wfi = Unit {0}
FieldsFit (SfenceVma rs1 rs2) = (rs1 < 32) × (rs2 < 32)
FieldsFit (Csrrw rd rs1 csr) = (rd < 32) × ((rs1 < 32) × (csr < 2 ^ 12))
FieldsFit (Csrrs rd rs1 csr) = (rd < 32) × ((rs1 < 32) × (csr < 2 ^ 12))
FieldsFit (Csrrc rd rs1 csr) = (rd < 32) × ((rs1 < 32) × (csr < 2 ^ 12))
FieldsFit (Csrrwi rd imm csr) = (rd < 32) × (IsPlain 5 imm × (csr < 2 ^ 12))
FieldsFit (Csrrsi rd imm csr) = (rd < 32) × (IsPlain 5 imm × (csr < 2 ^ 12))
FieldsFit (Csrrci rd imm csr) = (rd < 32) × (IsPlain 5 imm × (csr < 2 ^ 12))
FieldsFit (LrW rd rs1) = (rd < 32) × (rs1 < 32)
FieldsFit (ScW rd rs1 rs2) = (rd < 32) × ((rs1 < 32) × (rs2 < 32))
FieldsFit (AmoswapW rd rs1 rs2) = (rd < 32) × ((rs1 < 32) × (rs2 < 32))
FieldsFit (AmoaddW rd rs1 rs2) = (rd < 32) × ((rs1 < 32) × (rs2 < 32))
FieldsFit (AmoxorW rd rs1 rs2) = (rd < 32) × ((rs1 < 32) × (rs2 < 32))
FieldsFit (AmoandW rd rs1 rs2) = (rd < 32) × ((rs1 < 32) × (rs2 < 32))
FieldsFit (AmoorW rd rs1 rs2) = (rd < 32) × ((rs1 < 32) × (rs2 < 32))
FieldsFit (AmominW rd rs1 rs2) = (rd < 32) × ((rs1 < 32) × (rs2 < 32))
FieldsFit (AmomaxW rd rs1 rs2) = (rd < 32) × ((rs1 < 32) × (rs2 < 32))
FieldsFit (AmominuW rd rs1 rs2) = (rd < 32) × ((rs1 < 32) × (rs2 < 32))
FieldsFit (AmomaxuW rd rs1 rs2) = (rd < 32) × ((rs1 < 32) × (rs2 < 32))
FieldsFit (LrD rd rs1) = (rd < 32) × (rs1 < 32)
FieldsFit (ScD rd rs1 rs2) = (rd < 32) × ((rs1 < 32) × (rs2 < 32))
FieldsFit (AmoswapD rd rs1 rs2) = (rd < 32) × ((rs1 < 32) × (rs2 < 32))
FieldsFit (AmoaddD rd rs1 rs2) = (rd < 32) × ((rs1 < 32) × (rs2 < 32))
FieldsFit (AmoxorD rd rs1 rs2) = (rd < 32) × ((rs1 < 32) × (rs2 < 32))
FieldsFit (AmoandD rd rs1 rs2) = (rd < 32) × ((rs1 < 32) × (rs2 < 32))
FieldsFit (AmoorD rd rs1 rs2) = (rd < 32) × ((rs1 < 32) × (rs2 < 32))
FieldsFit (AmominD rd rs1 rs2) = (rd < 32) × ((rs1 < 32) × (rs2 < 32))
FieldsFit (AmomaxD rd rs1 rs2) = (rd < 32) × ((rs1 < 32) × (rs2 < 32))
FieldsFit (AmominuD rd rs1 rs2) = (rd < 32) × ((rs1 < 32) × (rs2 < 32))
FieldsFit (AmomaxuD rd rs1 rs2) = (rd < 32) × ((rs1 < 32) × (rs2 < 32))
