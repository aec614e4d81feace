-- The class of each instruction, with its operation, width and fields.
-- Which operation an instruction names is the unprivileged manual's, "RV32/64G Instruction Set Listings"; SRET, WFI and SFENCE.VMA are the privileged manual's.
use Rattle.rv_decode.specs.declared.Inst.{Inst}
use Rattle.std.specs.Prelude.{ℕ, ℤ}
use Rattle.rv_decode.specs.declared.Inst.TheVariants.{Lui, Auipc, Jal, Jalr, Beq, Bne, Blt, Bge, Bltu, Bgeu, Lb, Lh, Lw, Ld, Lbu, Lhu, Lwu, Sb, Sh, Sw, Sd, Addi, Slti, Sltiu, Xori, Ori, Andi, Addiw, Slli, Srli, Srai, Slliw, Srliw, Sraiw, Add, Sub, Sll, Slt, Sltu, Xor, Srl, Sra, Or, And, Addw, Subw, Sllw, Srlw, Sraw, Mul, Mulh, Mulhsu, Mulhu, Div, Divu, Rem, Remu, Mulw, Divw, Divuw, Remw, Remuw, Fence, FenceI, Ecall, Ebreak, Sret, Wfi, SfenceVma, Csrrw, Csrrs, Csrrc, Csrrwi, Csrrsi, Csrrci, LrW, ScW, AmoswapW, AmoaddW, AmoxorW, AmoandW, AmoorW, AmominW, AmomaxW, AmominuW, AmomaxuW, LrD, ScD, AmoswapD, AmoaddD, AmoxorD, AmoandD, AmoorD, AmominD, AmomaxD, AmominuD, AmomaxuD}
use Rattle.fc_numbers.specs.declared.machine.Width.TheVariants as width
use Rattle.rv_alu.specs.declared.AluOp.TheVariants as op
use Rattle.rv_alu.specs.declared.BranchOp.TheVariants as test
use Rattle.rv_alu.specs.declared.AmoOp.TheVariants as atom
use Rattle.rv_kinds.specs.declared.CsrOp.TheVariants as how
use Rattle.rv_kinds.specs.declared.Kind.{Kind}
use Rattle.rv_kinds.specs.declared.Kind.TheVariants as kind
use Rattle.fc_numbers.specs.declared.machine.Width.{Width}
use Rattle.rv_alu.specs.declared.AluOp.{AluOp}
use Rattle.rv_alu.specs.declared.BranchOp.{BranchOp}
use Rattle.rv_alu.specs.declared.AmoOp.{AmoOp}
use Rattle.rv_kinds.specs.declared.CsrOp.{CsrOp}
use Rattle.rv_kinds.specs.declared.Sign.{Sign}
use Rattle.rv_kinds.specs.declared.Sign.TheVariants as sign
use Rattle.rv_kinds.specs.declared.Source.TheVariants as source

abbrev pub alu_by_register : AluOp → ℕ → ℕ → ℕ → Kind
alu_by_register op rd rs1 rs2 = kind.Alu (record { op = op; rd = rd; rs1 = rs1; source = source.Register rs2 })

abbrev pub alu_by_number : AluOp → ℕ → ℕ → ℤ → Kind
alu_by_number op rd rs1 imm = kind.Alu (record { op = op; rd = rd; rs1 = rs1; source = source.Number imm })

abbrev pub branch_kind : BranchOp → ℕ → ℕ → ℤ → Kind
branch_kind op rs1 rs2 imm = kind.Branch (record { op = op; rs1 = rs1; rs2 = rs2; imm = imm })

abbrev pub load_kind : Width → Sign → ℕ → ℕ → ℤ → Kind
load_kind width sign rd rs1 imm = kind.Load (record { width = width; sign = sign; rd = rd; rs1 = rs1; imm = imm })

abbrev pub store_kind : Width → ℕ → ℕ → ℤ → Kind
store_kind width rs1 rs2 imm = kind.Store (record { width = width; rs1 = rs1; rs2 = rs2; imm = imm })

abbrev pub csr_by_register : CsrOp → ℕ → ℕ → ℕ → Kind
csr_by_register op rd csr rs1 = kind.Csr op rd csr (source.Register rs1)

abbrev pub csr_by_number : CsrOp → ℕ → ℕ → ℤ → Kind
csr_by_number op rd csr imm = kind.Csr op rd csr (source.Number imm)

abbrev pub reserve_kind : Width → ℕ → ℕ → Kind
reserve_kind width rd rs1 = kind.Reserve (record { width = width; rd = rd; rs1 = rs1 })

abbrev pub conditional_kind : Width → ℕ → ℕ → ℕ → Kind
conditional_kind width rd rs1 rs2 = kind.Conditional width rd rs1 rs2

abbrev pub amo_kind : AmoOp → Width → ℕ → ℕ → ℕ → Kind
amo_kind op width rd rs1 rs2 = kind.Amo (record { op = op; width = width; rd = rd; rs1 = rs1; rs2 = rs2 })

unfoldable pub kind_of : Inst → Kind
kind_of (Lui rd imm) = kind.Lui (record { rd = rd; imm = imm })
kind_of (Auipc rd imm) = kind.Auipc (record { rd = rd; imm = imm })
kind_of (Jal rd imm) = kind.Jal (record { rd = rd; imm = imm })
kind_of (Jalr rd rs1 imm) = kind.Jalr (record { rd = rd; rs1 = rs1; imm = imm })
kind_of (Beq rs1 rs2 imm) = branch_kind test.Eq rs1 rs2 imm
kind_of (Bne rs1 rs2 imm) = branch_kind test.Ne rs1 rs2 imm
kind_of (Blt rs1 rs2 imm) = branch_kind test.Lt rs1 rs2 imm
kind_of (Bge rs1 rs2 imm) = branch_kind test.Ge rs1 rs2 imm
kind_of (Bltu rs1 rs2 imm) = branch_kind test.Ltu rs1 rs2 imm
kind_of (Bgeu rs1 rs2 imm) = branch_kind test.Geu rs1 rs2 imm
kind_of (Lb rd rs1 imm) = load_kind width.Byte sign.Signed rd rs1 imm
kind_of (Lh rd rs1 imm) = load_kind width.Halfword sign.Signed rd rs1 imm
kind_of (Lw rd rs1 imm) = load_kind width.Word sign.Signed rd rs1 imm
kind_of (Ld rd rs1 imm) = load_kind width.Doubleword sign.Signed rd rs1 imm
kind_of (Lbu rd rs1 imm) = load_kind width.Byte sign.Unsigned rd rs1 imm
kind_of (Lhu rd rs1 imm) = load_kind width.Halfword sign.Unsigned rd rs1 imm
kind_of (Lwu rd rs1 imm) = load_kind width.Word sign.Unsigned rd rs1 imm
kind_of (Sb rs1 rs2 imm) = store_kind width.Byte rs1 rs2 imm
kind_of (Sh rs1 rs2 imm) = store_kind width.Halfword rs1 rs2 imm
kind_of (Sw rs1 rs2 imm) = store_kind width.Word rs1 rs2 imm
kind_of (Sd rs1 rs2 imm) = store_kind width.Doubleword rs1 rs2 imm
kind_of (Addi rd rs1 imm) = alu_by_number op.Add rd rs1 imm
kind_of (Slti rd rs1 imm) = alu_by_number op.Slt rd rs1 imm
kind_of (Sltiu rd rs1 imm) = alu_by_number op.Sltu rd rs1 imm
kind_of (Xori rd rs1 imm) = alu_by_number op.Xor rd rs1 imm
kind_of (Ori rd rs1 imm) = alu_by_number op.Or rd rs1 imm
kind_of (Andi rd rs1 imm) = alu_by_number op.And rd rs1 imm
kind_of (Addiw rd rs1 imm) = alu_by_number op.Addw rd rs1 imm
kind_of (Slli rd rs1 imm) = alu_by_number op.Sll rd rs1 imm
kind_of (Srli rd rs1 imm) = alu_by_number op.Srl rd rs1 imm
kind_of (Srai rd rs1 imm) = alu_by_number op.Sra rd rs1 imm
kind_of (Slliw rd rs1 imm) = alu_by_number op.Sllw rd rs1 imm
kind_of (Srliw rd rs1 imm) = alu_by_number op.Srlw rd rs1 imm
kind_of (Sraiw rd rs1 imm) = alu_by_number op.Sraw rd rs1 imm
kind_of (Add rd rs1 rs2) = alu_by_register op.Add rd rs1 rs2
kind_of (Sub rd rs1 rs2) = alu_by_register op.Sub rd rs1 rs2
kind_of (Sll rd rs1 rs2) = alu_by_register op.Sll rd rs1 rs2
kind_of (Slt rd rs1 rs2) = alu_by_register op.Slt rd rs1 rs2
kind_of (Sltu rd rs1 rs2) = alu_by_register op.Sltu rd rs1 rs2
kind_of (Xor rd rs1 rs2) = alu_by_register op.Xor rd rs1 rs2
kind_of (Srl rd rs1 rs2) = alu_by_register op.Srl rd rs1 rs2
kind_of (Sra rd rs1 rs2) = alu_by_register op.Sra rd rs1 rs2
kind_of (Or rd rs1 rs2) = alu_by_register op.Or rd rs1 rs2
kind_of (And rd rs1 rs2) = alu_by_register op.And rd rs1 rs2
kind_of (Addw rd rs1 rs2) = alu_by_register op.Addw rd rs1 rs2
kind_of (Subw rd rs1 rs2) = alu_by_register op.Subw rd rs1 rs2
kind_of (Sllw rd rs1 rs2) = alu_by_register op.Sllw rd rs1 rs2
kind_of (Srlw rd rs1 rs2) = alu_by_register op.Srlw rd rs1 rs2
kind_of (Sraw rd rs1 rs2) = alu_by_register op.Sraw rd rs1 rs2
kind_of (Mul rd rs1 rs2) = alu_by_register op.Mul rd rs1 rs2
kind_of (Mulh rd rs1 rs2) = alu_by_register op.Mulh rd rs1 rs2
kind_of (Mulhsu rd rs1 rs2) = alu_by_register op.Mulhsu rd rs1 rs2
kind_of (Mulhu rd rs1 rs2) = alu_by_register op.Mulhu rd rs1 rs2
kind_of (Div rd rs1 rs2) = alu_by_register op.Div rd rs1 rs2
kind_of (Divu rd rs1 rs2) = alu_by_register op.Divu rd rs1 rs2
kind_of (Rem rd rs1 rs2) = alu_by_register op.Rem rd rs1 rs2
kind_of (Remu rd rs1 rs2) = alu_by_register op.Remu rd rs1 rs2
kind_of (Mulw rd rs1 rs2) = alu_by_register op.Mulw rd rs1 rs2
kind_of (Divw rd rs1 rs2) = alu_by_register op.Divw rd rs1 rs2
kind_of (Divuw rd rs1 rs2) = alu_by_register op.Divuw rd rs1 rs2
kind_of (Remw rd rs1 rs2) = alu_by_register op.Remw rd rs1 rs2
kind_of (Remuw rd rs1 rs2) = alu_by_register op.Remuw rd rs1 rs2
kind_of Fence = kind.Nothing
kind_of FenceI = kind.Nothing
kind_of Ecall = kind.Call
kind_of Ebreak = kind.Break
kind_of Sret = kind.Return
kind_of Wfi = kind.Nothing
kind_of (SfenceVma rs1 rs2) = kind.FenceVma
kind_of (Csrrw rd rs1 csr) = csr_by_register how.Write rd csr rs1
kind_of (Csrrs rd rs1 csr) = csr_by_register how.Set rd csr rs1
kind_of (Csrrc rd rs1 csr) = csr_by_register how.Clear rd csr rs1
kind_of (Csrrwi rd imm csr) = csr_by_number how.Write rd csr imm
kind_of (Csrrsi rd imm csr) = csr_by_number how.Set rd csr imm
kind_of (Csrrci rd imm csr) = csr_by_number how.Clear rd csr imm
kind_of (LrW rd rs1) = reserve_kind width.Word rd rs1
kind_of (ScW rd rs1 rs2) = conditional_kind width.Word rd rs1 rs2
kind_of (AmoswapW rd rs1 rs2) = amo_kind atom.Swap width.Word rd rs1 rs2
kind_of (AmoaddW rd rs1 rs2) = amo_kind atom.Add width.Word rd rs1 rs2
kind_of (AmoxorW rd rs1 rs2) = amo_kind atom.Xor width.Word rd rs1 rs2
kind_of (AmoandW rd rs1 rs2) = amo_kind atom.And width.Word rd rs1 rs2
kind_of (AmoorW rd rs1 rs2) = amo_kind atom.Or width.Word rd rs1 rs2
kind_of (AmominW rd rs1 rs2) = amo_kind atom.Min width.Word rd rs1 rs2
kind_of (AmomaxW rd rs1 rs2) = amo_kind atom.Max width.Word rd rs1 rs2
kind_of (AmominuW rd rs1 rs2) = amo_kind atom.MinU width.Word rd rs1 rs2
kind_of (AmomaxuW rd rs1 rs2) = amo_kind atom.MaxU width.Word rd rs1 rs2
kind_of (LrD rd rs1) = reserve_kind width.Doubleword rd rs1
kind_of (ScD rd rs1 rs2) = conditional_kind width.Doubleword rd rs1 rs2
kind_of (AmoswapD rd rs1 rs2) = amo_kind atom.Swap width.Doubleword rd rs1 rs2
kind_of (AmoaddD rd rs1 rs2) = amo_kind atom.Add width.Doubleword rd rs1 rs2
kind_of (AmoxorD rd rs1 rs2) = amo_kind atom.Xor width.Doubleword rd rs1 rs2
kind_of (AmoandD rd rs1 rs2) = amo_kind atom.And width.Doubleword rd rs1 rs2
kind_of (AmoorD rd rs1 rs2) = amo_kind atom.Or width.Doubleword rd rs1 rs2
kind_of (AmominD rd rs1 rs2) = amo_kind atom.Min width.Doubleword rd rs1 rs2
kind_of (AmomaxD rd rs1 rs2) = amo_kind atom.Max width.Doubleword rd rs1 rs2
kind_of (AmominuD rd rs1 rs2) = amo_kind atom.MinU width.Doubleword rd rs1 rs2
kind_of (AmomaxuD rd rs1 rs2) = amo_kind atom.MaxU width.Doubleword rd rs1 rs2
