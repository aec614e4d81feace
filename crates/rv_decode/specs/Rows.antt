-- What a word and a halfword mean: two tables of rows. They are those of The RISC-V Instruction Set Manual, volume I,
-- "RV32/64G Instruction Set Listings" and "RVC Instruction Set Listings", and of volume II for SRET, WFI, SFENCE.VMA.
use Rattle.std.specs.Prelude.{◌≡◌, ℕ, pos, nat_eq, bit_and, if◌then◌else◌, Bool, true, ◌&&◌, not, List, [], ◌∷◌, Option, Some, None}
use Rattle.rv_decode.specs.declared.Inst.{Inst}
use Rattle.rv_decode.specs.declared.Inst.TheVariants.{Lui, Auipc, Jal, Jalr, Beq, Bne, Blt, Bge, Bltu, Bgeu, Lb, Lh, Lw, Ld, Lbu, Lhu, Lwu, Sb, Sh, Sw, Sd, Addi, Slti, Sltiu, Xori, Ori, Andi, Addiw, Slli, Srli, Srai, Slliw, Srliw, Sraiw, Add, Sub, Sll, Slt, Sltu, Xor, Srl, Sra, Or, And, Addw, Subw, Sllw, Srlw, Sraw, Mul, Mulh, Mulhsu, Mulhu, Div, Divu, Rem, Remu, Mulw, Divw, Divuw, Remw, Remuw, Fence, FenceI, Ecall, Ebreak, Sret, Wfi, SfenceVma, Csrrw, Csrrs, Csrrc, Csrrwi, Csrrsi, Csrrci, LrW, ScW, AmoswapW, AmoaddW, AmoxorW, AmoandW, AmoorW, AmominW, AmomaxW, AmominuW, AmomaxuW, LrD, ScD, AmoswapD, AmoaddD, AmoxorD, AmoandD, AmoorD, AmominD, AmomaxD, AmominuD, AmomaxuD}
use Rattle.rv_decode.specs.Fields.{rd_of, rs1_of, rs2_of, csr_of, imm_i_of, imm_s_of, imm_u_of, imm_b_of, imm_j_of, shamt6_of, shamt5_of, uimm_of}
use Rattle.rv_decode.specs.CompressedFields.{low_of, high_of, full_of, source_of, stack_bits_of, stack_of, word_offset_of, double_offset_of, small_of, frame_bits_of, frame_offset_of, upper_bits_of, upper_of, amount_of, jump_of, branch_offset_of, word_slot_of, double_slot_of, word_place_of, double_place_of}

-- a row: a word w is of it where `w & mask = value` and `when w`, and then means `reads w`
pub record Row : Type 0 where
  pub mask : ℕ
  pub value : ℕ
  pub when : ℕ → Bool
  pub reads : ℕ → Inst

abbrev pub row : ℕ → ℕ → (ℕ → Inst) → Row
row m v f = record { mask = m; value = v; when = λ _. true; reads = f }

abbrev pub row_where : ℕ → ℕ → (ℕ → Bool) → (ℕ → Inst) → Row
row_where m v p f = record { mask = m; value = v; when = p; reads = f }

-- the word is of the row
abbrev pub IsOfRow : Row → ℕ → Type 0
IsOfRow r w = (bit_and w r.mask ≡ r.value) × (r.when w ≡ true)

-- what the first row that fits makes of a word
abbrev pub first_fit : List Row → ℕ → Option Inst
first_fit [] w = None
first_fit (r ∷ rs) w = if nat_eq (bit_and w r.mask) r.value && r.when w then Some (r.reads w) else first_fit rs w

unfoldable pub rows : List Row
rows =
    -- upper immediates, jumps and branches
    row 0x0000007f 0x00000037 (λ w. Lui (rd_of w) (imm_u_of w)) ∷
    row 0x0000007f 0x00000017 (λ w. Auipc (rd_of w) (imm_u_of w)) ∷
    row 0x0000007f 0x0000006f (λ w. Jal (rd_of w) (imm_j_of w)) ∷
    row 0x0000707f 0x00000067 (λ w. Jalr (rd_of w) (rs1_of w) (imm_i_of w)) ∷
    row 0x0000707f 0x00000063 (λ w. Beq (rs1_of w) (rs2_of w) (imm_b_of w)) ∷
    row 0x0000707f 0x00001063 (λ w. Bne (rs1_of w) (rs2_of w) (imm_b_of w)) ∷
    row 0x0000707f 0x00004063 (λ w. Blt (rs1_of w) (rs2_of w) (imm_b_of w)) ∷
    row 0x0000707f 0x00005063 (λ w. Bge (rs1_of w) (rs2_of w) (imm_b_of w)) ∷
    row 0x0000707f 0x00006063 (λ w. Bltu (rs1_of w) (rs2_of w) (imm_b_of w)) ∷
    row 0x0000707f 0x00007063 (λ w. Bgeu (rs1_of w) (rs2_of w) (imm_b_of w)) ∷
    -- loads and stores
    row 0x0000707f 0x00000003 (λ w. Lb (rd_of w) (rs1_of w) (imm_i_of w)) ∷
    row 0x0000707f 0x00001003 (λ w. Lh (rd_of w) (rs1_of w) (imm_i_of w)) ∷
    row 0x0000707f 0x00002003 (λ w. Lw (rd_of w) (rs1_of w) (imm_i_of w)) ∷
    row 0x0000707f 0x00003003 (λ w. Ld (rd_of w) (rs1_of w) (imm_i_of w)) ∷
    row 0x0000707f 0x00004003 (λ w. Lbu (rd_of w) (rs1_of w) (imm_i_of w)) ∷
    row 0x0000707f 0x00005003 (λ w. Lhu (rd_of w) (rs1_of w) (imm_i_of w)) ∷
    row 0x0000707f 0x00006003 (λ w. Lwu (rd_of w) (rs1_of w) (imm_i_of w)) ∷
    row 0x0000707f 0x00000023 (λ w. Sb (rs1_of w) (rs2_of w) (imm_s_of w)) ∷
    row 0x0000707f 0x00001023 (λ w. Sh (rs1_of w) (rs2_of w) (imm_s_of w)) ∷
    row 0x0000707f 0x00002023 (λ w. Sw (rs1_of w) (rs2_of w) (imm_s_of w)) ∷
    row 0x0000707f 0x00003023 (λ w. Sd (rs1_of w) (rs2_of w) (imm_s_of w)) ∷
    -- operations with an immediate
    row 0x0000707f 0x00000013 (λ w. Addi (rd_of w) (rs1_of w) (imm_i_of w)) ∷
    row 0x0000707f 0x00002013 (λ w. Slti (rd_of w) (rs1_of w) (imm_i_of w)) ∷
    row 0x0000707f 0x00003013 (λ w. Sltiu (rd_of w) (rs1_of w) (imm_i_of w)) ∷
    row 0x0000707f 0x00004013 (λ w. Xori (rd_of w) (rs1_of w) (imm_i_of w)) ∷
    row 0x0000707f 0x00006013 (λ w. Ori (rd_of w) (rs1_of w) (imm_i_of w)) ∷
    row 0x0000707f 0x00007013 (λ w. Andi (rd_of w) (rs1_of w) (imm_i_of w)) ∷
    row 0x0000707f 0x0000001b (λ w. Addiw (rd_of w) (rs1_of w) (imm_i_of w)) ∷
    row 0xfc00707f 0x00001013 (λ w. Slli (rd_of w) (rs1_of w) (shamt6_of w)) ∷
    row 0xfc00707f 0x00005013 (λ w. Srli (rd_of w) (rs1_of w) (shamt6_of w)) ∷
    row 0xfc00707f 0x40005013 (λ w. Srai (rd_of w) (rs1_of w) (shamt6_of w)) ∷
    row 0xfe00707f 0x0000101b (λ w. Slliw (rd_of w) (rs1_of w) (shamt5_of w)) ∷
    row 0xfe00707f 0x0000501b (λ w. Srliw (rd_of w) (rs1_of w) (shamt5_of w)) ∷
    row 0xfe00707f 0x4000501b (λ w. Sraiw (rd_of w) (rs1_of w) (shamt5_of w)) ∷
    -- operations on registers
    row 0xfe00707f 0x00000033 (λ w. Add (rd_of w) (rs1_of w) (rs2_of w)) ∷
    row 0xfe00707f 0x40000033 (λ w. Sub (rd_of w) (rs1_of w) (rs2_of w)) ∷
    row 0xfe00707f 0x00001033 (λ w. Sll (rd_of w) (rs1_of w) (rs2_of w)) ∷
    row 0xfe00707f 0x00002033 (λ w. Slt (rd_of w) (rs1_of w) (rs2_of w)) ∷
    row 0xfe00707f 0x00003033 (λ w. Sltu (rd_of w) (rs1_of w) (rs2_of w)) ∷
    row 0xfe00707f 0x00004033 (λ w. Xor (rd_of w) (rs1_of w) (rs2_of w)) ∷
    row 0xfe00707f 0x00005033 (λ w. Srl (rd_of w) (rs1_of w) (rs2_of w)) ∷
    row 0xfe00707f 0x40005033 (λ w. Sra (rd_of w) (rs1_of w) (rs2_of w)) ∷
    row 0xfe00707f 0x00006033 (λ w. Or (rd_of w) (rs1_of w) (rs2_of w)) ∷
    row 0xfe00707f 0x00007033 (λ w. And (rd_of w) (rs1_of w) (rs2_of w)) ∷
    row 0xfe00707f 0x0000003b (λ w. Addw (rd_of w) (rs1_of w) (rs2_of w)) ∷
    row 0xfe00707f 0x4000003b (λ w. Subw (rd_of w) (rs1_of w) (rs2_of w)) ∷
    row 0xfe00707f 0x0000103b (λ w. Sllw (rd_of w) (rs1_of w) (rs2_of w)) ∷
    row 0xfe00707f 0x0000503b (λ w. Srlw (rd_of w) (rs1_of w) (rs2_of w)) ∷
    row 0xfe00707f 0x4000503b (λ w. Sraw (rd_of w) (rs1_of w) (rs2_of w)) ∷
    -- multiplication and division
    row 0xfe00707f 0x02000033 (λ w. Mul (rd_of w) (rs1_of w) (rs2_of w)) ∷
    row 0xfe00707f 0x02001033 (λ w. Mulh (rd_of w) (rs1_of w) (rs2_of w)) ∷
    row 0xfe00707f 0x02002033 (λ w. Mulhsu (rd_of w) (rs1_of w) (rs2_of w)) ∷
    row 0xfe00707f 0x02003033 (λ w. Mulhu (rd_of w) (rs1_of w) (rs2_of w)) ∷
    row 0xfe00707f 0x02004033 (λ w. Div (rd_of w) (rs1_of w) (rs2_of w)) ∷
    row 0xfe00707f 0x02005033 (λ w. Divu (rd_of w) (rs1_of w) (rs2_of w)) ∷
    row 0xfe00707f 0x02006033 (λ w. Rem (rd_of w) (rs1_of w) (rs2_of w)) ∷
    row 0xfe00707f 0x02007033 (λ w. Remu (rd_of w) (rs1_of w) (rs2_of w)) ∷
    row 0xfe00707f 0x0200003b (λ w. Mulw (rd_of w) (rs1_of w) (rs2_of w)) ∷
    row 0xfe00707f 0x0200403b (λ w. Divw (rd_of w) (rs1_of w) (rs2_of w)) ∷
    row 0xfe00707f 0x0200503b (λ w. Divuw (rd_of w) (rs1_of w) (rs2_of w)) ∷
    row 0xfe00707f 0x0200603b (λ w. Remw (rd_of w) (rs1_of w) (rs2_of w)) ∷
    row 0xfe00707f 0x0200703b (λ w. Remuw (rd_of w) (rs1_of w) (rs2_of w)) ∷
    -- fences, calls and supervisor instructions
    row 0x0000707f 0x0000000f (λ _. Fence) ∷
    row 0x0000707f 0x0000100f (λ _. FenceI) ∷
    row 0xffffffff 0x00000073 (λ _. Ecall) ∷
    row 0xffffffff 0x00100073 (λ _. Ebreak) ∷
    row 0xffffffff 0x10200073 (λ _. Sret) ∷
    row 0xffffffff 0x10500073 (λ _. Wfi) ∷
    row 0xfe007fff 0x12000073 (λ w. SfenceVma (rs1_of w) (rs2_of w)) ∷
    -- control and status registers
    row 0x0000707f 0x00001073 (λ w. Csrrw (rd_of w) (rs1_of w) (csr_of w)) ∷
    row 0x0000707f 0x00002073 (λ w. Csrrs (rd_of w) (rs1_of w) (csr_of w)) ∷
    row 0x0000707f 0x00003073 (λ w. Csrrc (rd_of w) (rs1_of w) (csr_of w)) ∷
    row 0x0000707f 0x00005073 (λ w. Csrrwi (rd_of w) (uimm_of w) (csr_of w)) ∷
    row 0x0000707f 0x00006073 (λ w. Csrrsi (rd_of w) (uimm_of w) (csr_of w)) ∷
    row 0x0000707f 0x00007073 (λ w. Csrrci (rd_of w) (uimm_of w) (csr_of w)) ∷
    -- atomic memory operations, 4 bytes
    row 0xf9f0707f 0x1000202f (λ w. LrW (rd_of w) (rs1_of w)) ∷
    row 0xf800707f 0x1800202f (λ w. ScW (rd_of w) (rs1_of w) (rs2_of w)) ∷
    row 0xf800707f 0x0800202f (λ w. AmoswapW (rd_of w) (rs1_of w) (rs2_of w)) ∷
    row 0xf800707f 0x0000202f (λ w. AmoaddW (rd_of w) (rs1_of w) (rs2_of w)) ∷
    row 0xf800707f 0x2000202f (λ w. AmoxorW (rd_of w) (rs1_of w) (rs2_of w)) ∷
    row 0xf800707f 0x6000202f (λ w. AmoandW (rd_of w) (rs1_of w) (rs2_of w)) ∷
    row 0xf800707f 0x4000202f (λ w. AmoorW (rd_of w) (rs1_of w) (rs2_of w)) ∷
    row 0xf800707f 0x8000202f (λ w. AmominW (rd_of w) (rs1_of w) (rs2_of w)) ∷
    row 0xf800707f 0xa000202f (λ w. AmomaxW (rd_of w) (rs1_of w) (rs2_of w)) ∷
    row 0xf800707f 0xc000202f (λ w. AmominuW (rd_of w) (rs1_of w) (rs2_of w)) ∷
    row 0xf800707f 0xe000202f (λ w. AmomaxuW (rd_of w) (rs1_of w) (rs2_of w)) ∷
    -- atomic memory operations, 8 bytes
    row 0xf9f0707f 0x1000302f (λ w. LrD (rd_of w) (rs1_of w)) ∷
    row 0xf800707f 0x1800302f (λ w. ScD (rd_of w) (rs1_of w) (rs2_of w)) ∷
    row 0xf800707f 0x0800302f (λ w. AmoswapD (rd_of w) (rs1_of w) (rs2_of w)) ∷
    row 0xf800707f 0x0000302f (λ w. AmoaddD (rd_of w) (rs1_of w) (rs2_of w)) ∷
    row 0xf800707f 0x2000302f (λ w. AmoxorD (rd_of w) (rs1_of w) (rs2_of w)) ∷
    row 0xf800707f 0x6000302f (λ w. AmoandD (rd_of w) (rs1_of w) (rs2_of w)) ∷
    row 0xf800707f 0x4000302f (λ w. AmoorD (rd_of w) (rs1_of w) (rs2_of w)) ∷
    row 0xf800707f 0x8000302f (λ w. AmominD (rd_of w) (rs1_of w) (rs2_of w)) ∷
    row 0xf800707f 0xa000302f (λ w. AmomaxD (rd_of w) (rs1_of w) (rs2_of w)) ∷
    row 0xf800707f 0xc000302f (λ w. AmominuD (rd_of w) (rs1_of w) (rs2_of w)) ∷
    row 0xf800707f 0xe000302f (λ w. AmomaxuD (rd_of w) (rs1_of w) (rs2_of w)) ∷ []

-- what a word means: None where no row fits
unfoldable pub decode_of : ℕ → Option Inst
decode_of w = first_fit rows w

unfoldable pub compressed_rows : List Row
compressed_rows =
    -- quadrant 0
    row_where 0xe003 0x0000 (λ h. not (nat_eq (stack_bits_of h) 0)) (λ h. Addi (low_of h) 2 (stack_of h)) ∷
    row 0xe003 0x4000 (λ h. Lw (low_of h) (high_of h) (word_offset_of h)) ∷
    row 0xe003 0x6000 (λ h. Ld (low_of h) (high_of h) (double_offset_of h)) ∷
    row 0xe003 0xc000 (λ h. Sw (high_of h) (low_of h) (word_offset_of h)) ∷
    row 0xe003 0xe000 (λ h. Sd (high_of h) (low_of h) (double_offset_of h)) ∷
    -- quadrant 1
    row 0xe003 0x0001 (λ h. Addi (full_of h) (full_of h) (small_of h)) ∷
    row_where 0xe003 0x2001 (λ h. not (nat_eq (full_of h) 0)) (λ h. Addiw (full_of h) (full_of h) (small_of h)) ∷
    row 0xe003 0x4001 (λ h. Addi (full_of h) 0 (small_of h)) ∷
    row_where 0xef83 0x6101 (λ h. not (nat_eq (frame_bits_of h) 0)) (λ h. Addi 2 2 (frame_offset_of h)) ∷
    row_where 0xe003 0x6001 (λ h. not (nat_eq (full_of h) 2) && not (nat_eq (upper_bits_of h) 0)) (λ h. Lui (full_of h) (upper_of h)) ∷
    row 0xec03 0x8001 (λ h. Srli (high_of h) (high_of h) (amount_of h)) ∷
    row 0xec03 0x8401 (λ h. Srai (high_of h) (high_of h) (amount_of h)) ∷
    row 0xec03 0x8801 (λ h. Andi (high_of h) (high_of h) (small_of h)) ∷
    row 0xfc63 0x8c01 (λ h. Sub (high_of h) (high_of h) (low_of h)) ∷
    row 0xfc63 0x8c21 (λ h. Xor (high_of h) (high_of h) (low_of h)) ∷
    row 0xfc63 0x8c41 (λ h. Or (high_of h) (high_of h) (low_of h)) ∷
    row 0xfc63 0x8c61 (λ h. And (high_of h) (high_of h) (low_of h)) ∷
    row 0xfc63 0x9c01 (λ h. Subw (high_of h) (high_of h) (low_of h)) ∷
    row 0xfc63 0x9c21 (λ h. Addw (high_of h) (high_of h) (low_of h)) ∷
    row 0xe003 0xa001 (λ h. Jal 0 (jump_of h)) ∷
    row 0xe003 0xc001 (λ h. Beq (high_of h) 0 (branch_offset_of h)) ∷
    row 0xe003 0xe001 (λ h. Bne (high_of h) 0 (branch_offset_of h)) ∷
    -- quadrant 2
    row 0xe003 0x0002 (λ h. Slli (full_of h) (full_of h) (amount_of h)) ∷
    row_where 0xe003 0x4002 (λ h. not (nat_eq (full_of h) 0)) (λ h. Lw (full_of h) 2 (word_slot_of h)) ∷
    row_where 0xe003 0x6002 (λ h. not (nat_eq (full_of h) 0)) (λ h. Ld (full_of h) 2 (double_slot_of h)) ∷
    row_where 0xf07f 0x8002 (λ h. not (nat_eq (full_of h) 0)) (λ h. Jalr 0 (full_of h) (pos 0)) ∷
    row_where 0xf003 0x8002 (λ h. not (nat_eq (source_of h) 0)) (λ h. Add (full_of h) 0 (source_of h)) ∷
    row 0xffff 0x9002 (λ _. Ebreak) ∷
    row_where 0xf07f 0x9002 (λ h. not (nat_eq (full_of h) 0)) (λ h. Jalr 1 (full_of h) (pos 0)) ∷
    row_where 0xf003 0x9002 (λ h. not (nat_eq (source_of h) 0)) (λ h. Add (full_of h) (full_of h) (source_of h)) ∷
    row 0xe003 0xc002 (λ h. Sw 2 (source_of h) (word_place_of h)) ∷
    row 0xe003 0xe002 (λ h. Sd 2 (source_of h) (double_place_of h)) ∷ []

-- what a halfword means: None where no row fits
unfoldable pub decode16_of : ℕ → Option Inst
decode16_of h = first_fit compressed_rows h
