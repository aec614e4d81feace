-- How an instruction is written: the standard's name of it, and its fields.
-- The names are those of The RISC-V Instruction Set Manual, volumes I and II, in lower case; the fields are those of the instruction's format there.
use Rattle.std.specs.Prelude.{ℕ, ℤ, pos, List, codes, Some, None}
use Rattle.rv_decode.specs.declared.Inst.{Inst}
use Rattle.rv_decode.specs.declared.Inst.TheVariants.{Lui, Auipc, Jal, Jalr, Beq, Bne, Blt, Bge, Bltu, Bgeu, Lb, Lh, Lw, Ld, Lbu, Lhu, Lwu, Sb, Sh, Sw, Sd, Addi, Slti, Sltiu, Xori, Ori, Andi, Addiw, Slli, Srli, Srai, Slliw, Srliw, Sraiw, Add, Sub, Sll, Slt, Sltu, Xor, Srl, Sra, Or, And, Addw, Subw, Sllw, Srlw, Sraw, Mul, Mulh, Mulhsu, Mulhu, Div, Divu, Rem, Remu, Mulw, Divw, Divuw, Remw, Remuw, Fence, FenceI, Ecall, Ebreak, Sret, Wfi, SfenceVma, Csrrw, Csrrs, Csrrc, Csrrwi, Csrrsi, Csrrci, LrW, ScW, AmoswapW, AmoaddW, AmoxorW, AmoandW, AmoorW, AmominW, AmomaxW, AmominuW, AmomaxuW, LrD, ScD, AmoswapD, AmoaddD, AmoxorD, AmoandD, AmoorD, AmominD, AmomaxD, AmominuD, AmomaxuD}
use Rattle.code_listing.specs.declared.form.Fields.{Fields}

abbrev pub no_fields : Fields
no_fields = record { rd = None; rs1 = None; rs2 = None; imm = None; csr = None }

abbrev pub rd_imm : ℕ → ℤ → Fields
rd_imm rd imm = record { rd = Some (pos rd); rs1 = None; rs2 = None; imm = Some imm; csr = None }

abbrev pub rd_imm_csr : ℕ → ℤ → ℕ → Fields
rd_imm_csr rd imm csr = record { rd = Some (pos rd); rs1 = None; rs2 = None; imm = Some imm; csr = Some (pos csr) }

abbrev pub rd_rs1 : ℕ → ℕ → Fields
rd_rs1 rd rs1 = record { rd = Some (pos rd); rs1 = Some (pos rs1); rs2 = None; imm = None; csr = None }

abbrev pub rd_rs1_csr : ℕ → ℕ → ℕ → Fields
rd_rs1_csr rd rs1 csr = record { rd = Some (pos rd); rs1 = Some (pos rs1); rs2 = None; imm = None; csr = Some (pos csr) }

abbrev pub rd_rs1_imm : ℕ → ℕ → ℤ → Fields
rd_rs1_imm rd rs1 imm = record { rd = Some (pos rd); rs1 = Some (pos rs1); rs2 = None; imm = Some imm; csr = None }

abbrev pub rd_rs1_rs2 : ℕ → ℕ → ℕ → Fields
rd_rs1_rs2 rd rs1 rs2 = record { rd = Some (pos rd); rs1 = Some (pos rs1); rs2 = Some (pos rs2); imm = None; csr = None }

abbrev pub rs1_rs2 : ℕ → ℕ → Fields
rs1_rs2 rs1 rs2 = record { rd = None; rs1 = Some (pos rs1); rs2 = Some (pos rs2); imm = None; csr = None }

abbrev pub rs1_rs2_imm : ℕ → ℕ → ℤ → Fields
rs1_rs2_imm rs1 rs2 imm = record { rd = None; rs1 = Some (pos rs1); rs2 = Some (pos rs2); imm = Some imm; csr = None }

-- a name and fields
pub record NamedFields : Type 0 where
  pub name : List ℕ
  pub fields : Fields

abbrev pub named_fields : List ℕ → Fields → NamedFields
named_fields name fields = record { name = name; fields = fields }

-- each instruction
unfoldable pub form_of : Inst → NamedFields
form_of (Lui rd imm) = named_fields (codes "lui") (rd_imm rd imm)
form_of (Auipc rd imm) = named_fields (codes "auipc") (rd_imm rd imm)
form_of (Jal rd imm) = named_fields (codes "jal") (rd_imm rd imm)
form_of (Jalr rd rs1 imm) = named_fields (codes "jalr") (rd_rs1_imm rd rs1 imm)
form_of (Beq rs1 rs2 imm) = named_fields (codes "beq") (rs1_rs2_imm rs1 rs2 imm)
form_of (Bne rs1 rs2 imm) = named_fields (codes "bne") (rs1_rs2_imm rs1 rs2 imm)
form_of (Blt rs1 rs2 imm) = named_fields (codes "blt") (rs1_rs2_imm rs1 rs2 imm)
form_of (Bge rs1 rs2 imm) = named_fields (codes "bge") (rs1_rs2_imm rs1 rs2 imm)
form_of (Bltu rs1 rs2 imm) = named_fields (codes "bltu") (rs1_rs2_imm rs1 rs2 imm)
form_of (Bgeu rs1 rs2 imm) = named_fields (codes "bgeu") (rs1_rs2_imm rs1 rs2 imm)
form_of (Lb rd rs1 imm) = named_fields (codes "lb") (rd_rs1_imm rd rs1 imm)
form_of (Lh rd rs1 imm) = named_fields (codes "lh") (rd_rs1_imm rd rs1 imm)
form_of (Lw rd rs1 imm) = named_fields (codes "lw") (rd_rs1_imm rd rs1 imm)
form_of (Ld rd rs1 imm) = named_fields (codes "ld") (rd_rs1_imm rd rs1 imm)
form_of (Lbu rd rs1 imm) = named_fields (codes "lbu") (rd_rs1_imm rd rs1 imm)
form_of (Lhu rd rs1 imm) = named_fields (codes "lhu") (rd_rs1_imm rd rs1 imm)
form_of (Lwu rd rs1 imm) = named_fields (codes "lwu") (rd_rs1_imm rd rs1 imm)
form_of (Sb rs1 rs2 imm) = named_fields (codes "sb") (rs1_rs2_imm rs1 rs2 imm)
form_of (Sh rs1 rs2 imm) = named_fields (codes "sh") (rs1_rs2_imm rs1 rs2 imm)
form_of (Sw rs1 rs2 imm) = named_fields (codes "sw") (rs1_rs2_imm rs1 rs2 imm)
form_of (Sd rs1 rs2 imm) = named_fields (codes "sd") (rs1_rs2_imm rs1 rs2 imm)
form_of (Addi rd rs1 imm) = named_fields (codes "addi") (rd_rs1_imm rd rs1 imm)
form_of (Slti rd rs1 imm) = named_fields (codes "slti") (rd_rs1_imm rd rs1 imm)
form_of (Sltiu rd rs1 imm) = named_fields (codes "sltiu") (rd_rs1_imm rd rs1 imm)
form_of (Xori rd rs1 imm) = named_fields (codes "xori") (rd_rs1_imm rd rs1 imm)
form_of (Ori rd rs1 imm) = named_fields (codes "ori") (rd_rs1_imm rd rs1 imm)
form_of (Andi rd rs1 imm) = named_fields (codes "andi") (rd_rs1_imm rd rs1 imm)
form_of (Addiw rd rs1 imm) = named_fields (codes "addiw") (rd_rs1_imm rd rs1 imm)
form_of (Slli rd rs1 imm) = named_fields (codes "slli") (rd_rs1_imm rd rs1 imm)
form_of (Srli rd rs1 imm) = named_fields (codes "srli") (rd_rs1_imm rd rs1 imm)
form_of (Srai rd rs1 imm) = named_fields (codes "srai") (rd_rs1_imm rd rs1 imm)
form_of (Slliw rd rs1 imm) = named_fields (codes "slliw") (rd_rs1_imm rd rs1 imm)
form_of (Srliw rd rs1 imm) = named_fields (codes "srliw") (rd_rs1_imm rd rs1 imm)
form_of (Sraiw rd rs1 imm) = named_fields (codes "sraiw") (rd_rs1_imm rd rs1 imm)
form_of (Add rd rs1 rs2) = named_fields (codes "add") (rd_rs1_rs2 rd rs1 rs2)
form_of (Sub rd rs1 rs2) = named_fields (codes "sub") (rd_rs1_rs2 rd rs1 rs2)
form_of (Sll rd rs1 rs2) = named_fields (codes "sll") (rd_rs1_rs2 rd rs1 rs2)
form_of (Slt rd rs1 rs2) = named_fields (codes "slt") (rd_rs1_rs2 rd rs1 rs2)
form_of (Sltu rd rs1 rs2) = named_fields (codes "sltu") (rd_rs1_rs2 rd rs1 rs2)
form_of (Xor rd rs1 rs2) = named_fields (codes "xor") (rd_rs1_rs2 rd rs1 rs2)
form_of (Srl rd rs1 rs2) = named_fields (codes "srl") (rd_rs1_rs2 rd rs1 rs2)
form_of (Sra rd rs1 rs2) = named_fields (codes "sra") (rd_rs1_rs2 rd rs1 rs2)
form_of (Or rd rs1 rs2) = named_fields (codes "or") (rd_rs1_rs2 rd rs1 rs2)
form_of (And rd rs1 rs2) = named_fields (codes "and") (rd_rs1_rs2 rd rs1 rs2)
form_of (Addw rd rs1 rs2) = named_fields (codes "addw") (rd_rs1_rs2 rd rs1 rs2)
form_of (Subw rd rs1 rs2) = named_fields (codes "subw") (rd_rs1_rs2 rd rs1 rs2)
form_of (Sllw rd rs1 rs2) = named_fields (codes "sllw") (rd_rs1_rs2 rd rs1 rs2)
form_of (Srlw rd rs1 rs2) = named_fields (codes "srlw") (rd_rs1_rs2 rd rs1 rs2)
form_of (Sraw rd rs1 rs2) = named_fields (codes "sraw") (rd_rs1_rs2 rd rs1 rs2)
form_of (Mul rd rs1 rs2) = named_fields (codes "mul") (rd_rs1_rs2 rd rs1 rs2)
form_of (Mulh rd rs1 rs2) = named_fields (codes "mulh") (rd_rs1_rs2 rd rs1 rs2)
form_of (Mulhsu rd rs1 rs2) = named_fields (codes "mulhsu") (rd_rs1_rs2 rd rs1 rs2)
form_of (Mulhu rd rs1 rs2) = named_fields (codes "mulhu") (rd_rs1_rs2 rd rs1 rs2)
form_of (Div rd rs1 rs2) = named_fields (codes "div") (rd_rs1_rs2 rd rs1 rs2)
form_of (Divu rd rs1 rs2) = named_fields (codes "divu") (rd_rs1_rs2 rd rs1 rs2)
form_of (Rem rd rs1 rs2) = named_fields (codes "rem") (rd_rs1_rs2 rd rs1 rs2)
form_of (Remu rd rs1 rs2) = named_fields (codes "remu") (rd_rs1_rs2 rd rs1 rs2)
form_of (Mulw rd rs1 rs2) = named_fields (codes "mulw") (rd_rs1_rs2 rd rs1 rs2)
form_of (Divw rd rs1 rs2) = named_fields (codes "divw") (rd_rs1_rs2 rd rs1 rs2)
form_of (Divuw rd rs1 rs2) = named_fields (codes "divuw") (rd_rs1_rs2 rd rs1 rs2)
form_of (Remw rd rs1 rs2) = named_fields (codes "remw") (rd_rs1_rs2 rd rs1 rs2)
form_of (Remuw rd rs1 rs2) = named_fields (codes "remuw") (rd_rs1_rs2 rd rs1 rs2)
form_of Fence = named_fields (codes "fence") no_fields
form_of FenceI = named_fields (codes "fence.i") no_fields
form_of Ecall = named_fields (codes "ecall") no_fields
form_of Ebreak = named_fields (codes "ebreak") no_fields
form_of Sret = named_fields (codes "sret") no_fields
form_of Wfi = named_fields (codes "wfi") no_fields
form_of (SfenceVma rs1 rs2) = named_fields (codes "sfence.vma") (rs1_rs2 rs1 rs2)
form_of (Csrrw rd rs1 csr) = named_fields (codes "csrrw") (rd_rs1_csr rd rs1 csr)
form_of (Csrrs rd rs1 csr) = named_fields (codes "csrrs") (rd_rs1_csr rd rs1 csr)
form_of (Csrrc rd rs1 csr) = named_fields (codes "csrrc") (rd_rs1_csr rd rs1 csr)
form_of (Csrrwi rd imm csr) = named_fields (codes "csrrwi") (rd_imm_csr rd imm csr)
form_of (Csrrsi rd imm csr) = named_fields (codes "csrrsi") (rd_imm_csr rd imm csr)
form_of (Csrrci rd imm csr) = named_fields (codes "csrrci") (rd_imm_csr rd imm csr)
form_of (LrW rd rs1) = named_fields (codes "lr.w") (rd_rs1 rd rs1)
form_of (ScW rd rs1 rs2) = named_fields (codes "sc.w") (rd_rs1_rs2 rd rs1 rs2)
form_of (AmoswapW rd rs1 rs2) = named_fields (codes "amoswap.w") (rd_rs1_rs2 rd rs1 rs2)
form_of (AmoaddW rd rs1 rs2) = named_fields (codes "amoadd.w") (rd_rs1_rs2 rd rs1 rs2)
form_of (AmoxorW rd rs1 rs2) = named_fields (codes "amoxor.w") (rd_rs1_rs2 rd rs1 rs2)
form_of (AmoandW rd rs1 rs2) = named_fields (codes "amoand.w") (rd_rs1_rs2 rd rs1 rs2)
form_of (AmoorW rd rs1 rs2) = named_fields (codes "amoor.w") (rd_rs1_rs2 rd rs1 rs2)
form_of (AmominW rd rs1 rs2) = named_fields (codes "amomin.w") (rd_rs1_rs2 rd rs1 rs2)
form_of (AmomaxW rd rs1 rs2) = named_fields (codes "amomax.w") (rd_rs1_rs2 rd rs1 rs2)
form_of (AmominuW rd rs1 rs2) = named_fields (codes "amominu.w") (rd_rs1_rs2 rd rs1 rs2)
form_of (AmomaxuW rd rs1 rs2) = named_fields (codes "amomaxu.w") (rd_rs1_rs2 rd rs1 rs2)
form_of (LrD rd rs1) = named_fields (codes "lr.d") (rd_rs1 rd rs1)
form_of (ScD rd rs1 rs2) = named_fields (codes "sc.d") (rd_rs1_rs2 rd rs1 rs2)
form_of (AmoswapD rd rs1 rs2) = named_fields (codes "amoswap.d") (rd_rs1_rs2 rd rs1 rs2)
form_of (AmoaddD rd rs1 rs2) = named_fields (codes "amoadd.d") (rd_rs1_rs2 rd rs1 rs2)
form_of (AmoxorD rd rs1 rs2) = named_fields (codes "amoxor.d") (rd_rs1_rs2 rd rs1 rs2)
form_of (AmoandD rd rs1 rs2) = named_fields (codes "amoand.d") (rd_rs1_rs2 rd rs1 rs2)
form_of (AmoorD rd rs1 rs2) = named_fields (codes "amoor.d") (rd_rs1_rs2 rd rs1 rs2)
form_of (AmominD rd rs1 rs2) = named_fields (codes "amomin.d") (rd_rs1_rs2 rd rs1 rs2)
form_of (AmomaxD rd rs1 rs2) = named_fields (codes "amomax.d") (rd_rs1_rs2 rd rs1 rs2)
form_of (AmominuD rd rs1 rs2) = named_fields (codes "amominu.d") (rd_rs1_rs2 rd rs1 rs2)
form_of (AmomaxuD rd rs1 rs2) = named_fields (codes "amomaxu.d") (rd_rs1_rs2 rd rs1 rs2)
