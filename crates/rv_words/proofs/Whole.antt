-- An instruction whose fields are in their ranges has a word, so what a word means has one.
use Rattle.std.proofs.Common.{◌≡◌, ℕ, ◌-◌, ◌%◌, ◌^◌, ◌<◌, refl, sym, subst, arith, Bool, true, false, ℤ, pos, negsuc}
use Rattle.std.specs.Prelude.{nat_eq, nat_lt, if◌then◌else◌, ◌&&◌, Option, Some, None, IfNone, IsSome}
use Rattle.std.proofs.lemmas.Bool.Decides.{nat_tests}
use Rattle.rv_decode.specs.declared.Inst.{Inst}
use Rattle.rv_decode.specs.declared.Inst.TheVariants.{Lui, Auipc, Jal, Jalr, Beq, Bne, Blt, Bge, Bltu, Bgeu, Lb, Lh, Lw, Ld, Lbu, Lhu, Lwu, Sb, Sh, Sw, Sd, Addi, Slti, Sltiu, Xori, Ori, Andi, Addiw, Slli, Srli, Srai, Slliw, Srliw, Sraiw, Add, Sub, Sll, Slt, Sltu, Xor, Srl, Sra, Or, And, Addw, Subw, Sllw, Srlw, Sraw, Mul, Mulh, Mulhsu, Mulhu, Div, Divu, Rem, Remu, Mulw, Divw, Divuw, Remw, Remuw, Fence, FenceI, Ecall, Ebreak, Sret, Wfi, SfenceVma, Csrrw, Csrrs, Csrrc, Csrrwi, Csrrsi, Csrrci, LrW, ScW, AmoswapW, AmoaddW, AmoxorW, AmoandW, AmoorW, AmominW, AmomaxW, AmominuW, AmomaxuW, LrD, ScD, AmoswapD, AmoaddD, AmoxorD, AmoandD, AmoorD, AmominD, AmomaxD, AmominuD, AmomaxuD}
use Rattle.rv_decode.specs.Rows.{decode_of}
use Rattle.rv_decode.specs.Ranges.{IsBelow, IsPlain, IsEven, IsUpper, FieldsFit}
use Rattle.rv_decode.proofs.Ranges.{decoded_fits}
use Rattle.rv_words.specs.Words.{fits_signed, wrapped, fits_plain, encode_of, word_u, word_j, word_i, word_b, word_s, word_s6, word_s5, word_r, word_v, word_c, word_ci, word_l, word_a}

abbrev pub has_word : Option ℕ → Bool
has_word None = false
has_word (Some w) = true

below_fits : (k : ℕ) (z : ℤ) → IsBelow k z → fits_signed k z ≡ true
below_fits k (pos n) h = grind (arith, nat_tests)
below_fits k (negsuc n) h = grind (arith, nat_tests)

plain_fits : (k : ℕ) (z : ℤ) → IsPlain k z → fits_plain k z ≡ true
plain_fits k (pos n) h = grind (arith, nat_tests)
plain_fits k (negsuc n) h = absurd h

even_12 : (z : ℤ) → IsBelow 12 z → IsEven z → nat_eq (wrapped 12 z % 2) 0 ≡ true
even_12 (pos n) b h = grind (arith, nat_tests)
even_12 (negsuc n) b h = let e : (2 ^ 13 - 1 - n) % 2 ≡ 0 = omega arith in grind (arith, nat_tests)

even_20 : (z : ℤ) → IsBelow 20 z → IsEven z → nat_eq (wrapped 20 z % 2) 0 ≡ true
even_20 (pos n) b h = grind (arith, nat_tests)
even_20 (negsuc n) b h = let e : (2 ^ 21 - 1 - n) % 2 ≡ 0 = omega arith in grind (arith, nat_tests)

upper_fits : (z : ℤ) → IsUpper z → fits_signed 31 z ≡ true
upper_fits (pos n) h = let l : n < 2 ^ 31 = h.0 in grind (arith, nat_tests)
upper_fits (negsuc n) h = let l : n < 2 ^ 31 = h.0 in grind (arith, nat_tests)

upper_whole : (z : ℤ) → IsUpper z → nat_eq (wrapped 31 z % 2 ^ 12) 0 ≡ true
upper_whole (pos n) h = let l : n % 2 ^ 12 ≡ 0 = h.1 in grind (arith, nat_tests)
upper_whole (negsuc n) h =
    let l : n < 2 ^ 31 = h.0 in
    let m : n % 2 ^ 12 ≡ 2 ^ 12 - 1 = h.1 in
    let e : (2 ^ 32 - 1 - n) % 2 ^ 12 ≡ 0 = omega arith in
    grind (arith, nat_tests)

less_fits : (a b : ℕ) → a < b → nat_lt a b ≡ true
less_fits a b h = grind (arith, nat_tests)

some : (b : Bool) (x : ℕ) → b ≡ true → has_word (if b then Some x else None) ≡ true
some true x h = refl
some false x h = absurd (cc)

all_of : (a b : Bool) → a ≡ true → b ≡ true → (a && b) ≡ true
all_of true b h k = k
all_of false b h k = absurd (cc)

word_u-some : (v : ℕ) (rd : ℕ) (imm : ℤ) → (rd < 32) × IsUpper imm → has_word (word_u v rd imm) ≡ true
word_u-some v rd imm f = some _ _ (all_of _ _ (less_fits rd 32 f.0) (all_of _ _ (upper_fits imm (f.1)) (upper_whole imm (f.1))))

word_j-some : (v : ℕ) (rd : ℕ) (imm : ℤ) → (rd < 32) × (IsBelow 20 imm × IsEven imm) → has_word (word_j v rd imm) ≡ true
word_j-some v rd imm f = some _ _ (all_of _ _ (less_fits rd 32 f.0) (all_of _ _ (below_fits 20 imm f.1.0) (even_20 imm f.1.0 f.1.1)))

word_i-some : (v : ℕ) (rd : ℕ) (rs1 : ℕ) (imm : ℤ) → (rd < 32) × ((rs1 < 32) × IsBelow 11 imm) → has_word (word_i v rd rs1 imm) ≡ true
word_i-some v rd rs1 imm f = some _ _ (all_of _ _ (less_fits rd 32 f.0) (all_of _ _ (less_fits rs1 32 f.1.0) (below_fits 11 imm f.1.1)))

word_b-some : (v : ℕ) (rs1 : ℕ) (rs2 : ℕ) (imm : ℤ) → (rs1 < 32) × ((rs2 < 32) × (IsBelow 12 imm × IsEven imm)) → has_word (word_b v rs1 rs2 imm) ≡ true
word_b-some v rs1 rs2 imm f = some _ _ (all_of _ _ (less_fits rs1 32 f.0) (all_of _ _ (less_fits rs2 32 f.1.0) (all_of _ _ (below_fits 12 imm f.1.1.0) (even_12 imm f.1.1.0 f.1.1.1))))

word_s-some : (v : ℕ) (rs1 : ℕ) (rs2 : ℕ) (imm : ℤ) → (rs1 < 32) × ((rs2 < 32) × IsBelow 11 imm) → has_word (word_s v rs1 rs2 imm) ≡ true
word_s-some v rs1 rs2 imm f = some _ _ (all_of _ _ (less_fits rs1 32 f.0) (all_of _ _ (less_fits rs2 32 f.1.0) (below_fits 11 imm f.1.1)))

word_s6-some : (v : ℕ) (rd : ℕ) (rs1 : ℕ) (imm : ℤ) → (rd < 32) × ((rs1 < 32) × IsPlain 6 imm) → has_word (word_s6 v rd rs1 imm) ≡ true
word_s6-some v rd rs1 imm f = some _ _ (all_of _ _ (less_fits rd 32 f.0) (all_of _ _ (less_fits rs1 32 f.1.0) (plain_fits 6 imm f.1.1)))

word_s5-some : (v : ℕ) (rd : ℕ) (rs1 : ℕ) (imm : ℤ) → (rd < 32) × ((rs1 < 32) × IsPlain 5 imm) → has_word (word_s5 v rd rs1 imm) ≡ true
word_s5-some v rd rs1 imm f = some _ _ (all_of _ _ (less_fits rd 32 f.0) (all_of _ _ (less_fits rs1 32 f.1.0) (plain_fits 5 imm f.1.1)))

word_r-some : (v : ℕ) (rd : ℕ) (rs1 : ℕ) (rs2 : ℕ) → (rd < 32) × ((rs1 < 32) × (rs2 < 32)) → has_word (word_r v rd rs1 rs2) ≡ true
word_r-some v rd rs1 rs2 f = some _ _ (all_of _ _ (less_fits rd 32 f.0) (all_of _ _ (less_fits rs1 32 f.1.0) (less_fits rs2 32 f.1.1)))

word_v-some : (v : ℕ) (rs1 : ℕ) (rs2 : ℕ) → (rs1 < 32) × (rs2 < 32) → has_word (word_v v rs1 rs2) ≡ true
word_v-some v rs1 rs2 f = some _ _ (all_of _ _ (less_fits rs1 32 f.0) (less_fits rs2 32 f.1))

word_c-some : (v : ℕ) (rd : ℕ) (rs1 : ℕ) (csr : ℕ) → (rd < 32) × ((rs1 < 32) × (csr < 2 ^ 12)) → has_word (word_c v rd rs1 csr) ≡ true
word_c-some v rd rs1 csr f = some _ _ (all_of _ _ (less_fits rd 32 f.0) (all_of _ _ (less_fits rs1 32 f.1.0) (less_fits csr (2 ^ 12) f.1.1)))

word_ci-some : (v : ℕ) (rd : ℕ) (imm : ℤ) (csr : ℕ) → (rd < 32) × (IsPlain 5 imm × (csr < 2 ^ 12)) → has_word (word_ci v rd imm csr) ≡ true
word_ci-some v rd imm csr f = some _ _ (all_of _ _ (less_fits rd 32 f.0) (all_of _ _ (plain_fits 5 imm f.1.0) (less_fits csr (2 ^ 12) f.1.1)))

word_l-some : (v : ℕ) (rd : ℕ) (rs1 : ℕ) → (rd < 32) × (rs1 < 32) → has_word (word_l v rd rs1) ≡ true
word_l-some v rd rs1 f = some _ _ (all_of _ _ (less_fits rd 32 f.0) (less_fits rs1 32 f.1))

word_a-some : (v : ℕ) (rd : ℕ) (rs1 : ℕ) (rs2 : ℕ) → (rd < 32) × ((rs1 < 32) × (rs2 < 32)) → has_word (word_a v rd rs1 rs2) ≡ true
word_a-some v rd rs1 rs2 f = some _ _ (all_of _ _ (less_fits rd 32 f.0) (all_of _ _ (less_fits rs1 32 f.1.0) (less_fits rs2 32 f.1.1)))

pub fields_have_word : (i : Inst) → FieldsFit i → has_word (encode_of i) ≡ true
unfolding FieldsFit encode_of
fields_have_word (Lui rd imm) f = word_u-some 0x37 rd imm f
fields_have_word (Auipc rd imm) f = word_u-some 0x17 rd imm f
fields_have_word (Jal rd imm) f = word_j-some 0x6f rd imm f
fields_have_word (Jalr rd rs1 imm) f = word_i-some 0x67 rd rs1 imm f
fields_have_word (Beq rs1 rs2 imm) f = word_b-some 0x63 rs1 rs2 imm f
fields_have_word (Bne rs1 rs2 imm) f = word_b-some 0x1063 rs1 rs2 imm f
fields_have_word (Blt rs1 rs2 imm) f = word_b-some 0x4063 rs1 rs2 imm f
fields_have_word (Bge rs1 rs2 imm) f = word_b-some 0x5063 rs1 rs2 imm f
fields_have_word (Bltu rs1 rs2 imm) f = word_b-some 0x6063 rs1 rs2 imm f
fields_have_word (Bgeu rs1 rs2 imm) f = word_b-some 0x7063 rs1 rs2 imm f
fields_have_word (Lb rd rs1 imm) f = word_i-some 0x3 rd rs1 imm f
fields_have_word (Lh rd rs1 imm) f = word_i-some 0x1003 rd rs1 imm f
fields_have_word (Lw rd rs1 imm) f = word_i-some 0x2003 rd rs1 imm f
fields_have_word (Ld rd rs1 imm) f = word_i-some 0x3003 rd rs1 imm f
fields_have_word (Lbu rd rs1 imm) f = word_i-some 0x4003 rd rs1 imm f
fields_have_word (Lhu rd rs1 imm) f = word_i-some 0x5003 rd rs1 imm f
fields_have_word (Lwu rd rs1 imm) f = word_i-some 0x6003 rd rs1 imm f
fields_have_word (Sb rs1 rs2 imm) f = word_s-some 0x23 rs1 rs2 imm f
fields_have_word (Sh rs1 rs2 imm) f = word_s-some 0x1023 rs1 rs2 imm f
fields_have_word (Sw rs1 rs2 imm) f = word_s-some 0x2023 rs1 rs2 imm f
fields_have_word (Sd rs1 rs2 imm) f = word_s-some 0x3023 rs1 rs2 imm f
fields_have_word (Addi rd rs1 imm) f = word_i-some 0x13 rd rs1 imm f
fields_have_word (Slti rd rs1 imm) f = word_i-some 0x2013 rd rs1 imm f
fields_have_word (Sltiu rd rs1 imm) f = word_i-some 0x3013 rd rs1 imm f
fields_have_word (Xori rd rs1 imm) f = word_i-some 0x4013 rd rs1 imm f
fields_have_word (Ori rd rs1 imm) f = word_i-some 0x6013 rd rs1 imm f
fields_have_word (Andi rd rs1 imm) f = word_i-some 0x7013 rd rs1 imm f
fields_have_word (Addiw rd rs1 imm) f = word_i-some 0x1b rd rs1 imm f
fields_have_word (Slli rd rs1 imm) f = word_s6-some 0x1013 rd rs1 imm f
fields_have_word (Srli rd rs1 imm) f = word_s6-some 0x5013 rd rs1 imm f
fields_have_word (Srai rd rs1 imm) f = word_s6-some 0x40005013 rd rs1 imm f
fields_have_word (Slliw rd rs1 imm) f = word_s5-some 0x101b rd rs1 imm f
fields_have_word (Srliw rd rs1 imm) f = word_s5-some 0x501b rd rs1 imm f
fields_have_word (Sraiw rd rs1 imm) f = word_s5-some 0x4000501b rd rs1 imm f
fields_have_word (Add rd rs1 rs2) f = word_r-some 0x33 rd rs1 rs2 f
fields_have_word (Sub rd rs1 rs2) f = word_r-some 0x40000033 rd rs1 rs2 f
fields_have_word (Sll rd rs1 rs2) f = word_r-some 0x1033 rd rs1 rs2 f
fields_have_word (Slt rd rs1 rs2) f = word_r-some 0x2033 rd rs1 rs2 f
fields_have_word (Sltu rd rs1 rs2) f = word_r-some 0x3033 rd rs1 rs2 f
fields_have_word (Xor rd rs1 rs2) f = word_r-some 0x4033 rd rs1 rs2 f
fields_have_word (Srl rd rs1 rs2) f = word_r-some 0x5033 rd rs1 rs2 f
fields_have_word (Sra rd rs1 rs2) f = word_r-some 0x40005033 rd rs1 rs2 f
fields_have_word (Or rd rs1 rs2) f = word_r-some 0x6033 rd rs1 rs2 f
fields_have_word (And rd rs1 rs2) f = word_r-some 0x7033 rd rs1 rs2 f
fields_have_word (Addw rd rs1 rs2) f = word_r-some 0x3b rd rs1 rs2 f
fields_have_word (Subw rd rs1 rs2) f = word_r-some 0x4000003b rd rs1 rs2 f
fields_have_word (Sllw rd rs1 rs2) f = word_r-some 0x103b rd rs1 rs2 f
fields_have_word (Srlw rd rs1 rs2) f = word_r-some 0x503b rd rs1 rs2 f
fields_have_word (Sraw rd rs1 rs2) f = word_r-some 0x4000503b rd rs1 rs2 f
fields_have_word (Mul rd rs1 rs2) f = word_r-some 0x2000033 rd rs1 rs2 f
fields_have_word (Mulh rd rs1 rs2) f = word_r-some 0x2001033 rd rs1 rs2 f
fields_have_word (Mulhsu rd rs1 rs2) f = word_r-some 0x2002033 rd rs1 rs2 f
fields_have_word (Mulhu rd rs1 rs2) f = word_r-some 0x2003033 rd rs1 rs2 f
fields_have_word (Div rd rs1 rs2) f = word_r-some 0x2004033 rd rs1 rs2 f
fields_have_word (Divu rd rs1 rs2) f = word_r-some 0x2005033 rd rs1 rs2 f
fields_have_word (Rem rd rs1 rs2) f = word_r-some 0x2006033 rd rs1 rs2 f
fields_have_word (Remu rd rs1 rs2) f = word_r-some 0x2007033 rd rs1 rs2 f
fields_have_word (Mulw rd rs1 rs2) f = word_r-some 0x200003b rd rs1 rs2 f
fields_have_word (Divw rd rs1 rs2) f = word_r-some 0x200403b rd rs1 rs2 f
fields_have_word (Divuw rd rs1 rs2) f = word_r-some 0x200503b rd rs1 rs2 f
fields_have_word (Remw rd rs1 rs2) f = word_r-some 0x200603b rd rs1 rs2 f
fields_have_word (Remuw rd rs1 rs2) f = word_r-some 0x200703b rd rs1 rs2 f
fields_have_word Fence f = refl
fields_have_word FenceI f = refl
fields_have_word Ecall f = refl
fields_have_word Ebreak f = refl
fields_have_word Sret f = refl
fields_have_word Wfi f = refl
fields_have_word (SfenceVma rs1 rs2) f = word_v-some 0x12000073 rs1 rs2 f
fields_have_word (Csrrw rd rs1 csr) f = word_c-some 0x1073 rd rs1 csr f
fields_have_word (Csrrs rd rs1 csr) f = word_c-some 0x2073 rd rs1 csr f
fields_have_word (Csrrc rd rs1 csr) f = word_c-some 0x3073 rd rs1 csr f
fields_have_word (Csrrwi rd imm csr) f = word_ci-some 0x5073 rd imm csr f
fields_have_word (Csrrsi rd imm csr) f = word_ci-some 0x6073 rd imm csr f
fields_have_word (Csrrci rd imm csr) f = word_ci-some 0x7073 rd imm csr f
fields_have_word (LrW rd rs1) f = word_l-some 0x1000202f rd rs1 f
fields_have_word (ScW rd rs1 rs2) f = word_a-some 0x1800202f rd rs1 rs2 f
fields_have_word (AmoswapW rd rs1 rs2) f = word_a-some 0x800202f rd rs1 rs2 f
fields_have_word (AmoaddW rd rs1 rs2) f = word_a-some 0x202f rd rs1 rs2 f
fields_have_word (AmoxorW rd rs1 rs2) f = word_a-some 0x2000202f rd rs1 rs2 f
fields_have_word (AmoandW rd rs1 rs2) f = word_a-some 0x6000202f rd rs1 rs2 f
fields_have_word (AmoorW rd rs1 rs2) f = word_a-some 0x4000202f rd rs1 rs2 f
fields_have_word (AmominW rd rs1 rs2) f = word_a-some 0x8000202f rd rs1 rs2 f
fields_have_word (AmomaxW rd rs1 rs2) f = word_a-some 0xa000202f rd rs1 rs2 f
fields_have_word (AmominuW rd rs1 rs2) f = word_a-some 0xc000202f rd rs1 rs2 f
fields_have_word (AmomaxuW rd rs1 rs2) f = word_a-some 0xe000202f rd rs1 rs2 f
fields_have_word (LrD rd rs1) f = word_l-some 0x1000302f rd rs1 f
fields_have_word (ScD rd rs1 rs2) f = word_a-some 0x1800302f rd rs1 rs2 f
fields_have_word (AmoswapD rd rs1 rs2) f = word_a-some 0x800302f rd rs1 rs2 f
fields_have_word (AmoaddD rd rs1 rs2) f = word_a-some 0x302f rd rs1 rs2 f
fields_have_word (AmoxorD rd rs1 rs2) f = word_a-some 0x2000302f rd rs1 rs2 f
fields_have_word (AmoandD rd rs1 rs2) f = word_a-some 0x6000302f rd rs1 rs2 f
fields_have_word (AmoorD rd rs1 rs2) f = word_a-some 0x4000302f rd rs1 rs2 f
fields_have_word (AmominD rd rs1 rs2) f = word_a-some 0x8000302f rd rs1 rs2 f
fields_have_word (AmomaxD rd rs1 rs2) f = word_a-some 0xa000302f rd rs1 rs2 f
fields_have_word (AmominuD rd rs1 rs2) f = word_a-some 0xc000302f rd rs1 rs2 f
fields_have_word (AmomaxuD rd rs1 rs2) f = word_a-some 0xe000302f rd rs1 rs2 f

is_some : (o : Option ℕ) → has_word o ≡ true → IsSome o
is_some None h = absurd (cc)
is_some (Some w) h = refl

pub fields_found : (i : Inst) (o : Option ℕ) → o ≡ encode_of i → FieldsFit i → IsSome o
fields_found i o h f = is_some o (subst (λ (y : Option ℕ). has_word y ≡ true) (sym h) (fields_have_word i f))

pub no_word : (i : Inst) (o : Option ℕ) → o ≡ encode_of i → IfNone o ((w : ℕ) → decode_of w ≡ Some i → ⊥)
no_word i None h = λ w e.
    let t : has_word (encode_of i) ≡ true = fields_have_word i (decoded_fits w i e) in
    let u : has_word None ≡ true = subst (λ (y : Option ℕ). has_word y ≡ true) (sym h) t in
    cc
no_word i (Some x) h = tt
