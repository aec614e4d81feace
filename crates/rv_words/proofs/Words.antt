-- The word of an instruction decodes to it.
use Rattle.std.proofs.Common.{◌≡◌, ℕ, ◌+◌, ◌*◌, ◌%◌, ◌^◌, ◌<◌, refl, sym, ◌∙◌, ap, arith, Bool, true, false, ℤ, pos, negsuc, pow-suc, add-one}
use Rattle.std.specs.Prelude.{nat_eq, nat_lt, bit_and, bit_or, if◌then◌else◌, ◌&&◌, Option, Some, None, IfSome}
use Rattle.std.proofs.lemmas.Bool.Decides.{nat_tests}
use Rattle.rv_decode.specs.declared.Inst.{Inst}
use Rattle.rv_decode.specs.declared.Inst.TheVariants.{Lui, Auipc, Jal, Jalr, Beq, Bne, Blt, Bge, Bltu, Bgeu, Lb, Lh, Lw, Ld, Lbu, Lhu, Lwu, Sb, Sh, Sw, Sd, Addi, Slti, Sltiu, Xori, Ori, Andi, Addiw, Slli, Srli, Srai, Slliw, Srliw, Sraiw, Add, Sub, Sll, Slt, Sltu, Xor, Srl, Sra, Or, And, Addw, Subw, Sllw, Srlw, Sraw, Mul, Mulh, Mulhsu, Mulhu, Div, Divu, Rem, Remu, Mulw, Divw, Divuw, Remw, Remuw, Fence, FenceI, Ecall, Ebreak, Sret, Wfi, SfenceVma, Csrrw, Csrrs, Csrrc, Csrrwi, Csrrsi, Csrrci, LrW, ScW, AmoswapW, AmoaddW, AmoxorW, AmoandW, AmoorW, AmominW, AmomaxW, AmominuW, AmomaxuW, LrD, ScD, AmoswapD, AmoaddD, AmoxorD, AmoandD, AmoorD, AmominD, AmomaxD, AmominuD, AmomaxuD}
use Rattle.rv_decode.specs.Rows.{rows, decode_of}
use Rattle.rv_decode.specs.Fields.{bits_of, signed, rd_of, rs1_of, rs2_of, csr_of, imm_i_of, imm_s_of, imm_b_of, imm_u_of, imm_j_of, shamt5_of, shamt6_of, uimm_of}
use Rattle.rv_decode.proofs.Known.{and_join, field_known, decode_known, known_fit}
use Rattle.rv_words.specs.Words.{fits_signed, wrapped, fits_plain, plain_number, is_register, b_put, s_put, j_put, encode_of, word_u, word_j, word_i, word_b, word_s, word_s6, word_s5, word_r, word_v, word_c, word_ci, word_l, word_a}

signed_wrapped : (k : ℕ) (z : ℤ) → fits_signed k z ≡ true → signed k (wrapped k z) ≡ z
signed_wrapped k (pos n) h = grind (arith, nat_tests)
signed_wrapped k (negsuc n) h =
    let two : 2 ^ (k + 1) ≡ 2 ^ k + 2 ^ k = rw add-one (pow-suc 2 k ∙ (omega arith)) in
    grind (arith, nat_tests, two)

wrapped_fits : (k : ℕ) (z : ℤ) → fits_signed k z ≡ true → wrapped k z < 2 ^ k + 2 ^ k
wrapped_fits k (pos n) h = grind (arith, nat_tests)
wrapped_fits k (negsuc n) h =
    let two : 2 ^ (k + 1) ≡ 2 ^ k + 2 ^ k = rw add-one (pow-suc 2 k ∙ (omega arith)) in
    grind (arith, nat_tests, two)

pos_plain : (k : ℕ) (z : ℤ) → fits_plain k z ≡ true → pos (plain_number z) ≡ z
pos_plain k (pos n) h = refl
pos_plain k (negsuc n) h = cc

plain_fits : (k : ℕ) (z : ℤ) → fits_plain k z ≡ true → plain_number z < 2 ^ k
plain_fits k (pos n) h = grind (arith, nat_tests)
plain_fits k (negsuc n) h = absurd (cc)

pub some_if : (b : Bool) (x w : ℕ) → (if b then Some x else None) ≡ Some w → (b ≡ true) × (w ≡ x)
some_if true x w e = (refl, cc)
some_if false x w e = absurd (cc)

both : (a b : Bool) → (a && b) ≡ true → (a ≡ true) × (b ≡ true)
both true b h = (refl, h)
both false b h = absurd (cc)

word_u-parts : (v : ℕ) (rd : ℕ) (imm : ℤ) (w : ℕ) → (bits_of v 0 7 * 2 ^ 0) ≡ v → bits_of v 0 7 * 2 ^ 0 ≡ v → word_u v rd imm ≡ Some w → (bit_and w 0x7f ≡ v) × (rd_of w ≡ rd) × (imm_u_of w ≡ imm)
word_u-parts v rd imm w joined summed e =
    let got : ((is_register rd && (fits_signed 31 imm && (nat_eq (wrapped 31 imm % 2 ^ 12) 0))) ≡ true) × (w ≡ v + rd * 2 ^ 7 + wrapped 31 imm) = some_if _ _ _ e in
    let p0 : (is_register rd ≡ true) × ((fits_signed 31 imm && (nat_eq (wrapped 31 imm % 2 ^ 12) 0)) ≡ true) = both _ _ got.0 in
    let c0 : is_register rd ≡ true = p0.0 in
    let p1 : (fits_signed 31 imm ≡ true) × ((nat_eq (wrapped 31 imm % 2 ^ 12) 0) ≡ true) = both _ _ p0.1 in
    let c1 : fits_signed 31 imm ≡ true = p1.0 in
    let c2 : nat_eq (wrapped 31 imm % 2 ^ 12) 0 ≡ true = p1.1 in
    let r0 : rd < 32 = grind (arith, nat_tests, c0) in
    let r1 : wrapped 31 imm < 4294967296 = wrapped_fits 31 imm c1 in
    let s1 : signed 31 (wrapped 31 imm) ≡ imm = signed_wrapped 31 imm c1 in
    let r2 : wrapped 31 imm % 2 ^ 12 ≡ 0 = grind (arith, nat_tests, c2) in
    let is : w ≡ v + rd * 2 ^ 7 + wrapped 31 imm = got.1 in
    let x0 : bits_of w 0 7 ≡ bits_of v 0 7 = omega arith in
    let raw : bits_of w 12 20 * 2 ^ 12 ≡ wrapped 31 imm = omega arith in
    ((field_known w 0 7 _ x0) ∙ joined, omega arith, ap (λ y. signed 31 y) raw ∙ s1)

word_j-parts : (v : ℕ) (rd : ℕ) (imm : ℤ) (w : ℕ) → (bits_of v 0 7 * 2 ^ 0) ≡ v → bits_of v 0 7 * 2 ^ 0 ≡ v → word_j v rd imm ≡ Some w → (bit_and w 0x7f ≡ v) × (rd_of w ≡ rd) × (imm_j_of w ≡ imm)
word_j-parts v rd imm w joined summed e =
    let got : ((is_register rd && (fits_signed 20 imm && (nat_eq (wrapped 20 imm % 2) 0))) ≡ true) × (w ≡ v + rd * 2 ^ 7 + j_put (wrapped 20 imm)) = some_if _ _ _ e in
    let p0 : (is_register rd ≡ true) × ((fits_signed 20 imm && (nat_eq (wrapped 20 imm % 2) 0)) ≡ true) = both _ _ got.0 in
    let c0 : is_register rd ≡ true = p0.0 in
    let p1 : (fits_signed 20 imm ≡ true) × ((nat_eq (wrapped 20 imm % 2) 0) ≡ true) = both _ _ p0.1 in
    let c1 : fits_signed 20 imm ≡ true = p1.0 in
    let c2 : nat_eq (wrapped 20 imm % 2) 0 ≡ true = p1.1 in
    let r0 : rd < 32 = grind (arith, nat_tests, c0) in
    let r1 : wrapped 20 imm < 2097152 = wrapped_fits 20 imm c1 in
    let s1 : signed 20 (wrapped 20 imm) ≡ imm = signed_wrapped 20 imm c1 in
    let r2 : wrapped 20 imm % 2 ≡ 0 = grind (arith, nat_tests, c2) in
    let is : w ≡ v + rd * 2 ^ 7 + j_put (wrapped 20 imm) = got.1 in
    let x0 : bits_of w 0 7 ≡ bits_of v 0 7 = omega arith in
    let raw : bits_of w 31 1 * 2 ^ 20 + bits_of w 12 8 * 2 ^ 12 + bits_of w 20 1 * 2 ^ 11 + bits_of w 21 10 * 2 ^ 1 ≡ wrapped 20 imm = omega arith in
    ((field_known w 0 7 _ x0) ∙ joined, omega arith, ap (λ y. signed 20 y) raw ∙ s1)

word_i-parts : (v : ℕ) (rd : ℕ) (rs1 : ℕ) (imm : ℤ) (w : ℕ) → (bit_or (bits_of v 0 7 * 2 ^ 0) (bits_of v 12 3 * 2 ^ 12)) ≡ v → bits_of v 0 7 * 2 ^ 0 + bits_of v 12 3 * 2 ^ 12 ≡ v → word_i v rd rs1 imm ≡ Some w → (bit_and w 0x707f ≡ v) × (rd_of w ≡ rd) × (rs1_of w ≡ rs1) × (imm_i_of w ≡ imm)
word_i-parts v rd rs1 imm w joined summed e =
    let got : ((is_register rd && (is_register rs1 && (fits_signed 11 imm))) ≡ true) × (w ≡ v + rd * 2 ^ 7 + rs1 * 2 ^ 15 + wrapped 11 imm * 2 ^ 20) = some_if _ _ _ e in
    let p0 : (is_register rd ≡ true) × ((is_register rs1 && (fits_signed 11 imm)) ≡ true) = both _ _ got.0 in
    let c0 : is_register rd ≡ true = p0.0 in
    let p1 : (is_register rs1 ≡ true) × ((fits_signed 11 imm) ≡ true) = both _ _ p0.1 in
    let c1 : is_register rs1 ≡ true = p1.0 in
    let c2 : fits_signed 11 imm ≡ true = p1.1 in
    let r0 : rd < 32 = grind (arith, nat_tests, c0) in
    let r1 : rs1 < 32 = grind (arith, nat_tests, c1) in
    let r2 : wrapped 11 imm < 4096 = wrapped_fits 11 imm c2 in
    let s2 : signed 11 (wrapped 11 imm) ≡ imm = signed_wrapped 11 imm c2 in
    let is : w ≡ v + rd * 2 ^ 7 + rs1 * 2 ^ 15 + wrapped 11 imm * 2 ^ 20 = got.1 in
    let x0 : bits_of w 0 7 ≡ bits_of v 0 7 = omega arith in
    let x12 : bits_of w 12 3 ≡ bits_of v 12 3 = omega arith in
    let raw : bits_of w 20 12 ≡ wrapped 11 imm = omega arith in
    ((and_join w 0x7f _ 0x7000 _ (field_known w 0 7 _ x0) (field_known w 12 3 _ x12)) ∙ joined, omega arith, omega arith, ap (λ y. signed 11 y) raw ∙ s2)

word_b-parts : (v : ℕ) (rs1 : ℕ) (rs2 : ℕ) (imm : ℤ) (w : ℕ) → (bit_or (bits_of v 0 7 * 2 ^ 0) (bits_of v 12 3 * 2 ^ 12)) ≡ v → bits_of v 0 7 * 2 ^ 0 + bits_of v 12 3 * 2 ^ 12 ≡ v → word_b v rs1 rs2 imm ≡ Some w → (bit_and w 0x707f ≡ v) × (rs1_of w ≡ rs1) × (rs2_of w ≡ rs2) × (imm_b_of w ≡ imm)
word_b-parts v rs1 rs2 imm w joined summed e =
    let got : ((is_register rs1 && (is_register rs2 && (fits_signed 12 imm && (nat_eq (wrapped 12 imm % 2) 0)))) ≡ true) × (w ≡ v + rs1 * 2 ^ 15 + rs2 * 2 ^ 20 + b_put (wrapped 12 imm)) = some_if _ _ _ e in
    let p0 : (is_register rs1 ≡ true) × ((is_register rs2 && (fits_signed 12 imm && (nat_eq (wrapped 12 imm % 2) 0))) ≡ true) = both _ _ got.0 in
    let c0 : is_register rs1 ≡ true = p0.0 in
    let p1 : (is_register rs2 ≡ true) × ((fits_signed 12 imm && (nat_eq (wrapped 12 imm % 2) 0)) ≡ true) = both _ _ p0.1 in
    let c1 : is_register rs2 ≡ true = p1.0 in
    let p2 : (fits_signed 12 imm ≡ true) × ((nat_eq (wrapped 12 imm % 2) 0) ≡ true) = both _ _ p1.1 in
    let c2 : fits_signed 12 imm ≡ true = p2.0 in
    let c3 : nat_eq (wrapped 12 imm % 2) 0 ≡ true = p2.1 in
    let r0 : rs1 < 32 = grind (arith, nat_tests, c0) in
    let r1 : rs2 < 32 = grind (arith, nat_tests, c1) in
    let r2 : wrapped 12 imm < 8192 = wrapped_fits 12 imm c2 in
    let s2 : signed 12 (wrapped 12 imm) ≡ imm = signed_wrapped 12 imm c2 in
    let r3 : wrapped 12 imm % 2 ≡ 0 = grind (arith, nat_tests, c3) in
    let is : w ≡ v + rs1 * 2 ^ 15 + rs2 * 2 ^ 20 + b_put (wrapped 12 imm) = got.1 in
    let x0 : bits_of w 0 7 ≡ bits_of v 0 7 = omega arith in
    let x12 : bits_of w 12 3 ≡ bits_of v 12 3 = omega arith in
    let raw : bits_of w 31 1 * 2 ^ 12 + bits_of w 7 1 * 2 ^ 11 + bits_of w 25 6 * 2 ^ 5 + bits_of w 8 4 * 2 ^ 1 ≡ wrapped 12 imm = omega arith in
    ((and_join w 0x7f _ 0x7000 _ (field_known w 0 7 _ x0) (field_known w 12 3 _ x12)) ∙ joined, omega arith, omega arith, ap (λ y. signed 12 y) raw ∙ s2)

word_s-parts : (v : ℕ) (rs1 : ℕ) (rs2 : ℕ) (imm : ℤ) (w : ℕ) → (bit_or (bits_of v 0 7 * 2 ^ 0) (bits_of v 12 3 * 2 ^ 12)) ≡ v → bits_of v 0 7 * 2 ^ 0 + bits_of v 12 3 * 2 ^ 12 ≡ v → word_s v rs1 rs2 imm ≡ Some w → (bit_and w 0x707f ≡ v) × (rs1_of w ≡ rs1) × (rs2_of w ≡ rs2) × (imm_s_of w ≡ imm)
word_s-parts v rs1 rs2 imm w joined summed e =
    let got : ((is_register rs1 && (is_register rs2 && (fits_signed 11 imm))) ≡ true) × (w ≡ v + rs1 * 2 ^ 15 + rs2 * 2 ^ 20 + s_put (wrapped 11 imm)) = some_if _ _ _ e in
    let p0 : (is_register rs1 ≡ true) × ((is_register rs2 && (fits_signed 11 imm)) ≡ true) = both _ _ got.0 in
    let c0 : is_register rs1 ≡ true = p0.0 in
    let p1 : (is_register rs2 ≡ true) × ((fits_signed 11 imm) ≡ true) = both _ _ p0.1 in
    let c1 : is_register rs2 ≡ true = p1.0 in
    let c2 : fits_signed 11 imm ≡ true = p1.1 in
    let r0 : rs1 < 32 = grind (arith, nat_tests, c0) in
    let r1 : rs2 < 32 = grind (arith, nat_tests, c1) in
    let r2 : wrapped 11 imm < 4096 = wrapped_fits 11 imm c2 in
    let s2 : signed 11 (wrapped 11 imm) ≡ imm = signed_wrapped 11 imm c2 in
    let is : w ≡ v + rs1 * 2 ^ 15 + rs2 * 2 ^ 20 + s_put (wrapped 11 imm) = got.1 in
    let x0 : bits_of w 0 7 ≡ bits_of v 0 7 = omega arith in
    let x12 : bits_of w 12 3 ≡ bits_of v 12 3 = omega arith in
    let raw : bits_of w 25 7 * 2 ^ 5 + bits_of w 7 5 ≡ wrapped 11 imm = omega arith in
    ((and_join w 0x7f _ 0x7000 _ (field_known w 0 7 _ x0) (field_known w 12 3 _ x12)) ∙ joined, omega arith, omega arith, ap (λ y. signed 11 y) raw ∙ s2)

word_s6-parts : (v : ℕ) (rd : ℕ) (rs1 : ℕ) (imm : ℤ) (w : ℕ) → (bit_or (bit_or (bits_of v 0 7 * 2 ^ 0) (bits_of v 12 3 * 2 ^ 12)) (bits_of v 26 6 * 2 ^ 26)) ≡ v → bits_of v 0 7 * 2 ^ 0 + bits_of v 12 3 * 2 ^ 12 + bits_of v 26 6 * 2 ^ 26 ≡ v → word_s6 v rd rs1 imm ≡ Some w → (bit_and w 0xfc00707f ≡ v) × (rd_of w ≡ rd) × (rs1_of w ≡ rs1) × (shamt6_of w ≡ imm)
word_s6-parts v rd rs1 imm w joined summed e =
    let got : ((is_register rd && (is_register rs1 && (fits_plain 6 imm))) ≡ true) × (w ≡ v + rd * 2 ^ 7 + rs1 * 2 ^ 15 + plain_number imm * 2 ^ 20) = some_if _ _ _ e in
    let p0 : (is_register rd ≡ true) × ((is_register rs1 && (fits_plain 6 imm)) ≡ true) = both _ _ got.0 in
    let c0 : is_register rd ≡ true = p0.0 in
    let p1 : (is_register rs1 ≡ true) × ((fits_plain 6 imm) ≡ true) = both _ _ p0.1 in
    let c1 : is_register rs1 ≡ true = p1.0 in
    let c2 : fits_plain 6 imm ≡ true = p1.1 in
    let r0 : rd < 32 = grind (arith, nat_tests, c0) in
    let r1 : rs1 < 32 = grind (arith, nat_tests, c1) in
    let r2 : plain_number imm < 64 = plain_fits 6 imm c2 in
    let s2 : pos (plain_number imm) ≡ imm = pos_plain 6 imm c2 in
    let is : w ≡ v + rd * 2 ^ 7 + rs1 * 2 ^ 15 + plain_number imm * 2 ^ 20 = got.1 in
    let x0 : bits_of w 0 7 ≡ bits_of v 0 7 = omega arith in
    let x12 : bits_of w 12 3 ≡ bits_of v 12 3 = omega arith in
    let x26 : bits_of w 26 6 ≡ bits_of v 26 6 = omega arith in
    let raw : bits_of w 20 6 ≡ plain_number imm = omega arith in
    ((and_join w 0x707f _ 0xfc000000 _ (and_join w 0x7f _ 0x7000 _ (field_known w 0 7 _ x0) (field_known w 12 3 _ x12)) (field_known w 26 6 _ x26)) ∙ joined, omega arith, omega arith, ap (λ y. pos y) raw ∙ s2)

word_s5-parts : (v : ℕ) (rd : ℕ) (rs1 : ℕ) (imm : ℤ) (w : ℕ) → (bit_or (bit_or (bits_of v 0 7 * 2 ^ 0) (bits_of v 12 3 * 2 ^ 12)) (bits_of v 25 7 * 2 ^ 25)) ≡ v → bits_of v 0 7 * 2 ^ 0 + bits_of v 12 3 * 2 ^ 12 + bits_of v 25 7 * 2 ^ 25 ≡ v → word_s5 v rd rs1 imm ≡ Some w → (bit_and w 0xfe00707f ≡ v) × (rd_of w ≡ rd) × (rs1_of w ≡ rs1) × (shamt5_of w ≡ imm)
word_s5-parts v rd rs1 imm w joined summed e =
    let got : ((is_register rd && (is_register rs1 && (fits_plain 5 imm))) ≡ true) × (w ≡ v + rd * 2 ^ 7 + rs1 * 2 ^ 15 + plain_number imm * 2 ^ 20) = some_if _ _ _ e in
    let p0 : (is_register rd ≡ true) × ((is_register rs1 && (fits_plain 5 imm)) ≡ true) = both _ _ got.0 in
    let c0 : is_register rd ≡ true = p0.0 in
    let p1 : (is_register rs1 ≡ true) × ((fits_plain 5 imm) ≡ true) = both _ _ p0.1 in
    let c1 : is_register rs1 ≡ true = p1.0 in
    let c2 : fits_plain 5 imm ≡ true = p1.1 in
    let r0 : rd < 32 = grind (arith, nat_tests, c0) in
    let r1 : rs1 < 32 = grind (arith, nat_tests, c1) in
    let r2 : plain_number imm < 32 = plain_fits 5 imm c2 in
    let s2 : pos (plain_number imm) ≡ imm = pos_plain 5 imm c2 in
    let is : w ≡ v + rd * 2 ^ 7 + rs1 * 2 ^ 15 + plain_number imm * 2 ^ 20 = got.1 in
    let x0 : bits_of w 0 7 ≡ bits_of v 0 7 = omega arith in
    let x12 : bits_of w 12 3 ≡ bits_of v 12 3 = omega arith in
    let x25 : bits_of w 25 7 ≡ bits_of v 25 7 = omega arith in
    let raw : bits_of w 20 5 ≡ plain_number imm = omega arith in
    ((and_join w 0x707f _ 0xfe000000 _ (and_join w 0x7f _ 0x7000 _ (field_known w 0 7 _ x0) (field_known w 12 3 _ x12)) (field_known w 25 7 _ x25)) ∙ joined, omega arith, omega arith, ap (λ y. pos y) raw ∙ s2)

word_r-parts : (v : ℕ) (rd : ℕ) (rs1 : ℕ) (rs2 : ℕ) (w : ℕ) → (bit_or (bit_or (bits_of v 0 7 * 2 ^ 0) (bits_of v 12 3 * 2 ^ 12)) (bits_of v 25 7 * 2 ^ 25)) ≡ v → bits_of v 0 7 * 2 ^ 0 + bits_of v 12 3 * 2 ^ 12 + bits_of v 25 7 * 2 ^ 25 ≡ v → word_r v rd rs1 rs2 ≡ Some w → (bit_and w 0xfe00707f ≡ v) × (rd_of w ≡ rd) × (rs1_of w ≡ rs1) × (rs2_of w ≡ rs2)
word_r-parts v rd rs1 rs2 w joined summed e =
    let got : ((is_register rd && (is_register rs1 && (is_register rs2))) ≡ true) × (w ≡ v + rd * 2 ^ 7 + rs1 * 2 ^ 15 + rs2 * 2 ^ 20) = some_if _ _ _ e in
    let p0 : (is_register rd ≡ true) × ((is_register rs1 && (is_register rs2)) ≡ true) = both _ _ got.0 in
    let c0 : is_register rd ≡ true = p0.0 in
    let p1 : (is_register rs1 ≡ true) × ((is_register rs2) ≡ true) = both _ _ p0.1 in
    let c1 : is_register rs1 ≡ true = p1.0 in
    let c2 : is_register rs2 ≡ true = p1.1 in
    let r0 : rd < 32 = grind (arith, nat_tests, c0) in
    let r1 : rs1 < 32 = grind (arith, nat_tests, c1) in
    let r2 : rs2 < 32 = grind (arith, nat_tests, c2) in
    let is : w ≡ v + rd * 2 ^ 7 + rs1 * 2 ^ 15 + rs2 * 2 ^ 20 = got.1 in
    let x0 : bits_of w 0 7 ≡ bits_of v 0 7 = omega arith in
    let x12 : bits_of w 12 3 ≡ bits_of v 12 3 = omega arith in
    let x25 : bits_of w 25 7 ≡ bits_of v 25 7 = omega arith in
    ((and_join w 0x707f _ 0xfe000000 _ (and_join w 0x7f _ 0x7000 _ (field_known w 0 7 _ x0) (field_known w 12 3 _ x12)) (field_known w 25 7 _ x25)) ∙ joined, omega arith, omega arith, omega arith)

word_v-parts : (v : ℕ) (rs1 : ℕ) (rs2 : ℕ) (w : ℕ) → (bit_or (bits_of v 0 15 * 2 ^ 0) (bits_of v 25 7 * 2 ^ 25)) ≡ v → bits_of v 0 15 * 2 ^ 0 + bits_of v 25 7 * 2 ^ 25 ≡ v → word_v v rs1 rs2 ≡ Some w → (bit_and w 0xfe007fff ≡ v) × (rs1_of w ≡ rs1) × (rs2_of w ≡ rs2)
word_v-parts v rs1 rs2 w joined summed e =
    let got : ((is_register rs1 && (is_register rs2)) ≡ true) × (w ≡ v + rs1 * 2 ^ 15 + rs2 * 2 ^ 20) = some_if _ _ _ e in
    let p0 : (is_register rs1 ≡ true) × ((is_register rs2) ≡ true) = both _ _ got.0 in
    let c0 : is_register rs1 ≡ true = p0.0 in
    let c1 : is_register rs2 ≡ true = p0.1 in
    let r0 : rs1 < 32 = grind (arith, nat_tests, c0) in
    let r1 : rs2 < 32 = grind (arith, nat_tests, c1) in
    let is : w ≡ v + rs1 * 2 ^ 15 + rs2 * 2 ^ 20 = got.1 in
    let x0 : bits_of w 0 15 ≡ bits_of v 0 15 = omega arith in
    let x25 : bits_of w 25 7 ≡ bits_of v 25 7 = omega arith in
    ((and_join w 0x7fff _ 0xfe000000 _ (field_known w 0 15 _ x0) (field_known w 25 7 _ x25)) ∙ joined, omega arith, omega arith)

word_c-parts : (v : ℕ) (rd : ℕ) (rs1 : ℕ) (csr : ℕ) (w : ℕ) → (bit_or (bits_of v 0 7 * 2 ^ 0) (bits_of v 12 3 * 2 ^ 12)) ≡ v → bits_of v 0 7 * 2 ^ 0 + bits_of v 12 3 * 2 ^ 12 ≡ v → word_c v rd rs1 csr ≡ Some w → (bit_and w 0x707f ≡ v) × (rd_of w ≡ rd) × (rs1_of w ≡ rs1) × (csr_of w ≡ csr)
word_c-parts v rd rs1 csr w joined summed e =
    let got : ((is_register rd && (is_register rs1 && (nat_lt csr (2 ^ 12)))) ≡ true) × (w ≡ v + rd * 2 ^ 7 + rs1 * 2 ^ 15 + csr * 2 ^ 20) = some_if _ _ _ e in
    let p0 : (is_register rd ≡ true) × ((is_register rs1 && (nat_lt csr (2 ^ 12))) ≡ true) = both _ _ got.0 in
    let c0 : is_register rd ≡ true = p0.0 in
    let p1 : (is_register rs1 ≡ true) × ((nat_lt csr (2 ^ 12)) ≡ true) = both _ _ p0.1 in
    let c1 : is_register rs1 ≡ true = p1.0 in
    let c2 : nat_lt csr (2 ^ 12) ≡ true = p1.1 in
    let r0 : rd < 32 = grind (arith, nat_tests, c0) in
    let r1 : rs1 < 32 = grind (arith, nat_tests, c1) in
    let r2 : csr < 4096 = grind (arith, nat_tests, c2) in
    let is : w ≡ v + rd * 2 ^ 7 + rs1 * 2 ^ 15 + csr * 2 ^ 20 = got.1 in
    let x0 : bits_of w 0 7 ≡ bits_of v 0 7 = omega arith in
    let x12 : bits_of w 12 3 ≡ bits_of v 12 3 = omega arith in
    ((and_join w 0x7f _ 0x7000 _ (field_known w 0 7 _ x0) (field_known w 12 3 _ x12)) ∙ joined, omega arith, omega arith, omega arith)

word_ci-parts : (v : ℕ) (rd : ℕ) (imm : ℤ) (csr : ℕ) (w : ℕ) → (bit_or (bits_of v 0 7 * 2 ^ 0) (bits_of v 12 3 * 2 ^ 12)) ≡ v → bits_of v 0 7 * 2 ^ 0 + bits_of v 12 3 * 2 ^ 12 ≡ v → word_ci v rd imm csr ≡ Some w → (bit_and w 0x707f ≡ v) × (rd_of w ≡ rd) × (uimm_of w ≡ imm) × (csr_of w ≡ csr)
word_ci-parts v rd imm csr w joined summed e =
    let got : ((is_register rd && (fits_plain 5 imm && (nat_lt csr (2 ^ 12)))) ≡ true) × (w ≡ v + rd * 2 ^ 7 + plain_number imm * 2 ^ 15 + csr * 2 ^ 20) = some_if _ _ _ e in
    let p0 : (is_register rd ≡ true) × ((fits_plain 5 imm && (nat_lt csr (2 ^ 12))) ≡ true) = both _ _ got.0 in
    let c0 : is_register rd ≡ true = p0.0 in
    let p1 : (fits_plain 5 imm ≡ true) × ((nat_lt csr (2 ^ 12)) ≡ true) = both _ _ p0.1 in
    let c1 : fits_plain 5 imm ≡ true = p1.0 in
    let c2 : nat_lt csr (2 ^ 12) ≡ true = p1.1 in
    let r0 : rd < 32 = grind (arith, nat_tests, c0) in
    let r1 : plain_number imm < 32 = plain_fits 5 imm c1 in
    let s1 : pos (plain_number imm) ≡ imm = pos_plain 5 imm c1 in
    let r2 : csr < 4096 = grind (arith, nat_tests, c2) in
    let is : w ≡ v + rd * 2 ^ 7 + plain_number imm * 2 ^ 15 + csr * 2 ^ 20 = got.1 in
    let x0 : bits_of w 0 7 ≡ bits_of v 0 7 = omega arith in
    let x12 : bits_of w 12 3 ≡ bits_of v 12 3 = omega arith in
    let raw : bits_of w 15 5 ≡ plain_number imm = omega arith in
    ((and_join w 0x7f _ 0x7000 _ (field_known w 0 7 _ x0) (field_known w 12 3 _ x12)) ∙ joined, omega arith, ap (λ y. pos y) raw ∙ s1, omega arith)

word_l-parts : (v : ℕ) (rd : ℕ) (rs1 : ℕ) (w : ℕ) → (bit_or (bit_or (bit_or (bits_of v 0 7 * 2 ^ 0) (bits_of v 12 3 * 2 ^ 12)) (bits_of v 27 5 * 2 ^ 27)) (bits_of v 20 5 * 2 ^ 20)) ≡ v → bits_of v 0 7 * 2 ^ 0 + bits_of v 12 3 * 2 ^ 12 + bits_of v 27 5 * 2 ^ 27 + bits_of v 20 5 * 2 ^ 20 ≡ v → word_l v rd rs1 ≡ Some w → (bit_and w 0xf9f0707f ≡ v) × (rd_of w ≡ rd) × (rs1_of w ≡ rs1)
word_l-parts v rd rs1 w joined summed e =
    let got : ((is_register rd && (is_register rs1)) ≡ true) × (w ≡ v + rd * 2 ^ 7 + rs1 * 2 ^ 15) = some_if _ _ _ e in
    let p0 : (is_register rd ≡ true) × ((is_register rs1) ≡ true) = both _ _ got.0 in
    let c0 : is_register rd ≡ true = p0.0 in
    let c1 : is_register rs1 ≡ true = p0.1 in
    let r0 : rd < 32 = grind (arith, nat_tests, c0) in
    let r1 : rs1 < 32 = grind (arith, nat_tests, c1) in
    let is : w ≡ v + rd * 2 ^ 7 + rs1 * 2 ^ 15 = got.1 in
    let x0 : bits_of w 0 7 ≡ bits_of v 0 7 = omega arith in
    let x12 : bits_of w 12 3 ≡ bits_of v 12 3 = omega arith in
    let x27 : bits_of w 27 5 ≡ bits_of v 27 5 = omega arith in
    let x20 : bits_of w 20 5 ≡ bits_of v 20 5 = omega arith in
    ((and_join w 0xf800707f _ 0x1f00000 _ (and_join w 0x707f _ 0xf8000000 _ (and_join w 0x7f _ 0x7000 _ (field_known w 0 7 _ x0) (field_known w 12 3 _ x12)) (field_known w 27 5 _ x27)) (field_known w 20 5 _ x20)) ∙ joined, omega arith, omega arith)

word_a-parts : (v : ℕ) (rd : ℕ) (rs1 : ℕ) (rs2 : ℕ) (w : ℕ) → (bit_or (bit_or (bits_of v 0 7 * 2 ^ 0) (bits_of v 12 3 * 2 ^ 12)) (bits_of v 27 5 * 2 ^ 27)) ≡ v → bits_of v 0 7 * 2 ^ 0 + bits_of v 12 3 * 2 ^ 12 + bits_of v 27 5 * 2 ^ 27 ≡ v → word_a v rd rs1 rs2 ≡ Some w → (bit_and w 0xf800707f ≡ v) × (rd_of w ≡ rd) × (rs1_of w ≡ rs1) × (rs2_of w ≡ rs2)
word_a-parts v rd rs1 rs2 w joined summed e =
    let got : ((is_register rd && (is_register rs1 && (is_register rs2))) ≡ true) × (w ≡ v + rd * 2 ^ 7 + rs1 * 2 ^ 15 + rs2 * 2 ^ 20) = some_if _ _ _ e in
    let p0 : (is_register rd ≡ true) × ((is_register rs1 && (is_register rs2)) ≡ true) = both _ _ got.0 in
    let c0 : is_register rd ≡ true = p0.0 in
    let p1 : (is_register rs1 ≡ true) × ((is_register rs2) ≡ true) = both _ _ p0.1 in
    let c1 : is_register rs1 ≡ true = p1.0 in
    let c2 : is_register rs2 ≡ true = p1.1 in
    let r0 : rd < 32 = grind (arith, nat_tests, c0) in
    let r1 : rs1 < 32 = grind (arith, nat_tests, c1) in
    let r2 : rs2 < 32 = grind (arith, nat_tests, c2) in
    let is : w ≡ v + rd * 2 ^ 7 + rs1 * 2 ^ 15 + rs2 * 2 ^ 20 = got.1 in
    let x0 : bits_of w 0 7 ≡ bits_of v 0 7 = omega arith in
    let x12 : bits_of w 12 3 ≡ bits_of v 12 3 = omega arith in
    let x27 : bits_of w 27 5 ≡ bits_of v 27 5 = omega arith in
    ((and_join w 0x707f _ 0xf8000000 _ (and_join w 0x7f _ 0x7000 _ (field_known w 0 7 _ x0) (field_known w 12 3 _ x12)) (field_known w 27 5 _ x27)) ∙ joined, omega arith, omega arith, omega arith)

pub encode_of-decodes : (i : Inst) (w : ℕ) → encode_of i ≡ Some w → decode_of w ≡ Some i
unfolding encode_of rows known_fit decode_of
encode_of-decodes (Lui rd imm) w e = let t = word_u-parts 0x37 rd imm w refl refl e in decode_known 0x7f 0x37 w t.0 ∙ ap (λ y. Some (Lui y (imm_u_of w))) t.1 ∙ ap (λ y. Some (Lui rd y)) t.2
encode_of-decodes (Auipc rd imm) w e = let t = word_u-parts 0x17 rd imm w refl refl e in decode_known 0x7f 0x17 w t.0 ∙ ap (λ y. Some (Auipc y (imm_u_of w))) t.1 ∙ ap (λ y. Some (Auipc rd y)) t.2
encode_of-decodes (Jal rd imm) w e = let t = word_j-parts 0x6f rd imm w refl refl e in decode_known 0x7f 0x6f w t.0 ∙ ap (λ y. Some (Jal y (imm_j_of w))) t.1 ∙ ap (λ y. Some (Jal rd y)) t.2
encode_of-decodes (Jalr rd rs1 imm) w e = let t = word_i-parts 0x67 rd rs1 imm w refl refl e in decode_known 0x707f 0x67 w t.0 ∙ ap (λ y. Some (Jalr y (rs1_of w) (imm_i_of w))) t.1 ∙ ap (λ y. Some (Jalr rd y (imm_i_of w))) t.2 ∙ ap (λ y. Some (Jalr rd rs1 y)) t.3
encode_of-decodes (Beq rs1 rs2 imm) w e = let t = word_b-parts 0x63 rs1 rs2 imm w refl refl e in decode_known 0x707f 0x63 w t.0 ∙ ap (λ y. Some (Beq y (rs2_of w) (imm_b_of w))) t.1 ∙ ap (λ y. Some (Beq rs1 y (imm_b_of w))) t.2 ∙ ap (λ y. Some (Beq rs1 rs2 y)) t.3
encode_of-decodes (Bne rs1 rs2 imm) w e = let t = word_b-parts 0x1063 rs1 rs2 imm w refl refl e in decode_known 0x707f 0x1063 w t.0 ∙ ap (λ y. Some (Bne y (rs2_of w) (imm_b_of w))) t.1 ∙ ap (λ y. Some (Bne rs1 y (imm_b_of w))) t.2 ∙ ap (λ y. Some (Bne rs1 rs2 y)) t.3
encode_of-decodes (Blt rs1 rs2 imm) w e = let t = word_b-parts 0x4063 rs1 rs2 imm w refl refl e in decode_known 0x707f 0x4063 w t.0 ∙ ap (λ y. Some (Blt y (rs2_of w) (imm_b_of w))) t.1 ∙ ap (λ y. Some (Blt rs1 y (imm_b_of w))) t.2 ∙ ap (λ y. Some (Blt rs1 rs2 y)) t.3
encode_of-decodes (Bge rs1 rs2 imm) w e = let t = word_b-parts 0x5063 rs1 rs2 imm w refl refl e in decode_known 0x707f 0x5063 w t.0 ∙ ap (λ y. Some (Bge y (rs2_of w) (imm_b_of w))) t.1 ∙ ap (λ y. Some (Bge rs1 y (imm_b_of w))) t.2 ∙ ap (λ y. Some (Bge rs1 rs2 y)) t.3
encode_of-decodes (Bltu rs1 rs2 imm) w e = let t = word_b-parts 0x6063 rs1 rs2 imm w refl refl e in decode_known 0x707f 0x6063 w t.0 ∙ ap (λ y. Some (Bltu y (rs2_of w) (imm_b_of w))) t.1 ∙ ap (λ y. Some (Bltu rs1 y (imm_b_of w))) t.2 ∙ ap (λ y. Some (Bltu rs1 rs2 y)) t.3
encode_of-decodes (Bgeu rs1 rs2 imm) w e = let t = word_b-parts 0x7063 rs1 rs2 imm w refl refl e in decode_known 0x707f 0x7063 w t.0 ∙ ap (λ y. Some (Bgeu y (rs2_of w) (imm_b_of w))) t.1 ∙ ap (λ y. Some (Bgeu rs1 y (imm_b_of w))) t.2 ∙ ap (λ y. Some (Bgeu rs1 rs2 y)) t.3
encode_of-decodes (Lb rd rs1 imm) w e = let t = word_i-parts 0x3 rd rs1 imm w refl refl e in decode_known 0x707f 0x3 w t.0 ∙ ap (λ y. Some (Lb y (rs1_of w) (imm_i_of w))) t.1 ∙ ap (λ y. Some (Lb rd y (imm_i_of w))) t.2 ∙ ap (λ y. Some (Lb rd rs1 y)) t.3
encode_of-decodes (Lh rd rs1 imm) w e = let t = word_i-parts 0x1003 rd rs1 imm w refl refl e in decode_known 0x707f 0x1003 w t.0 ∙ ap (λ y. Some (Lh y (rs1_of w) (imm_i_of w))) t.1 ∙ ap (λ y. Some (Lh rd y (imm_i_of w))) t.2 ∙ ap (λ y. Some (Lh rd rs1 y)) t.3
encode_of-decodes (Lw rd rs1 imm) w e = let t = word_i-parts 0x2003 rd rs1 imm w refl refl e in decode_known 0x707f 0x2003 w t.0 ∙ ap (λ y. Some (Lw y (rs1_of w) (imm_i_of w))) t.1 ∙ ap (λ y. Some (Lw rd y (imm_i_of w))) t.2 ∙ ap (λ y. Some (Lw rd rs1 y)) t.3
encode_of-decodes (Ld rd rs1 imm) w e = let t = word_i-parts 0x3003 rd rs1 imm w refl refl e in decode_known 0x707f 0x3003 w t.0 ∙ ap (λ y. Some (Ld y (rs1_of w) (imm_i_of w))) t.1 ∙ ap (λ y. Some (Ld rd y (imm_i_of w))) t.2 ∙ ap (λ y. Some (Ld rd rs1 y)) t.3
encode_of-decodes (Lbu rd rs1 imm) w e = let t = word_i-parts 0x4003 rd rs1 imm w refl refl e in decode_known 0x707f 0x4003 w t.0 ∙ ap (λ y. Some (Lbu y (rs1_of w) (imm_i_of w))) t.1 ∙ ap (λ y. Some (Lbu rd y (imm_i_of w))) t.2 ∙ ap (λ y. Some (Lbu rd rs1 y)) t.3
encode_of-decodes (Lhu rd rs1 imm) w e = let t = word_i-parts 0x5003 rd rs1 imm w refl refl e in decode_known 0x707f 0x5003 w t.0 ∙ ap (λ y. Some (Lhu y (rs1_of w) (imm_i_of w))) t.1 ∙ ap (λ y. Some (Lhu rd y (imm_i_of w))) t.2 ∙ ap (λ y. Some (Lhu rd rs1 y)) t.3
encode_of-decodes (Lwu rd rs1 imm) w e = let t = word_i-parts 0x6003 rd rs1 imm w refl refl e in decode_known 0x707f 0x6003 w t.0 ∙ ap (λ y. Some (Lwu y (rs1_of w) (imm_i_of w))) t.1 ∙ ap (λ y. Some (Lwu rd y (imm_i_of w))) t.2 ∙ ap (λ y. Some (Lwu rd rs1 y)) t.3
encode_of-decodes (Sb rs1 rs2 imm) w e = let t = word_s-parts 0x23 rs1 rs2 imm w refl refl e in decode_known 0x707f 0x23 w t.0 ∙ ap (λ y. Some (Sb y (rs2_of w) (imm_s_of w))) t.1 ∙ ap (λ y. Some (Sb rs1 y (imm_s_of w))) t.2 ∙ ap (λ y. Some (Sb rs1 rs2 y)) t.3
encode_of-decodes (Sh rs1 rs2 imm) w e = let t = word_s-parts 0x1023 rs1 rs2 imm w refl refl e in decode_known 0x707f 0x1023 w t.0 ∙ ap (λ y. Some (Sh y (rs2_of w) (imm_s_of w))) t.1 ∙ ap (λ y. Some (Sh rs1 y (imm_s_of w))) t.2 ∙ ap (λ y. Some (Sh rs1 rs2 y)) t.3
encode_of-decodes (Sw rs1 rs2 imm) w e = let t = word_s-parts 0x2023 rs1 rs2 imm w refl refl e in decode_known 0x707f 0x2023 w t.0 ∙ ap (λ y. Some (Sw y (rs2_of w) (imm_s_of w))) t.1 ∙ ap (λ y. Some (Sw rs1 y (imm_s_of w))) t.2 ∙ ap (λ y. Some (Sw rs1 rs2 y)) t.3
encode_of-decodes (Sd rs1 rs2 imm) w e = let t = word_s-parts 0x3023 rs1 rs2 imm w refl refl e in decode_known 0x707f 0x3023 w t.0 ∙ ap (λ y. Some (Sd y (rs2_of w) (imm_s_of w))) t.1 ∙ ap (λ y. Some (Sd rs1 y (imm_s_of w))) t.2 ∙ ap (λ y. Some (Sd rs1 rs2 y)) t.3
encode_of-decodes (Addi rd rs1 imm) w e = let t = word_i-parts 0x13 rd rs1 imm w refl refl e in decode_known 0x707f 0x13 w t.0 ∙ ap (λ y. Some (Addi y (rs1_of w) (imm_i_of w))) t.1 ∙ ap (λ y. Some (Addi rd y (imm_i_of w))) t.2 ∙ ap (λ y. Some (Addi rd rs1 y)) t.3
encode_of-decodes (Slti rd rs1 imm) w e = let t = word_i-parts 0x2013 rd rs1 imm w refl refl e in decode_known 0x707f 0x2013 w t.0 ∙ ap (λ y. Some (Slti y (rs1_of w) (imm_i_of w))) t.1 ∙ ap (λ y. Some (Slti rd y (imm_i_of w))) t.2 ∙ ap (λ y. Some (Slti rd rs1 y)) t.3
encode_of-decodes (Sltiu rd rs1 imm) w e = let t = word_i-parts 0x3013 rd rs1 imm w refl refl e in decode_known 0x707f 0x3013 w t.0 ∙ ap (λ y. Some (Sltiu y (rs1_of w) (imm_i_of w))) t.1 ∙ ap (λ y. Some (Sltiu rd y (imm_i_of w))) t.2 ∙ ap (λ y. Some (Sltiu rd rs1 y)) t.3
encode_of-decodes (Xori rd rs1 imm) w e = let t = word_i-parts 0x4013 rd rs1 imm w refl refl e in decode_known 0x707f 0x4013 w t.0 ∙ ap (λ y. Some (Xori y (rs1_of w) (imm_i_of w))) t.1 ∙ ap (λ y. Some (Xori rd y (imm_i_of w))) t.2 ∙ ap (λ y. Some (Xori rd rs1 y)) t.3
encode_of-decodes (Ori rd rs1 imm) w e = let t = word_i-parts 0x6013 rd rs1 imm w refl refl e in decode_known 0x707f 0x6013 w t.0 ∙ ap (λ y. Some (Ori y (rs1_of w) (imm_i_of w))) t.1 ∙ ap (λ y. Some (Ori rd y (imm_i_of w))) t.2 ∙ ap (λ y. Some (Ori rd rs1 y)) t.3
encode_of-decodes (Andi rd rs1 imm) w e = let t = word_i-parts 0x7013 rd rs1 imm w refl refl e in decode_known 0x707f 0x7013 w t.0 ∙ ap (λ y. Some (Andi y (rs1_of w) (imm_i_of w))) t.1 ∙ ap (λ y. Some (Andi rd y (imm_i_of w))) t.2 ∙ ap (λ y. Some (Andi rd rs1 y)) t.3
encode_of-decodes (Addiw rd rs1 imm) w e = let t = word_i-parts 0x1b rd rs1 imm w refl refl e in decode_known 0x707f 0x1b w t.0 ∙ ap (λ y. Some (Addiw y (rs1_of w) (imm_i_of w))) t.1 ∙ ap (λ y. Some (Addiw rd y (imm_i_of w))) t.2 ∙ ap (λ y. Some (Addiw rd rs1 y)) t.3
encode_of-decodes (Slli rd rs1 imm) w e = let t = word_s6-parts 0x1013 rd rs1 imm w refl refl e in decode_known 0xfc00707f 0x1013 w t.0 ∙ ap (λ y. Some (Slli y (rs1_of w) (shamt6_of w))) t.1 ∙ ap (λ y. Some (Slli rd y (shamt6_of w))) t.2 ∙ ap (λ y. Some (Slli rd rs1 y)) t.3
encode_of-decodes (Srli rd rs1 imm) w e = let t = word_s6-parts 0x5013 rd rs1 imm w refl refl e in decode_known 0xfc00707f 0x5013 w t.0 ∙ ap (λ y. Some (Srli y (rs1_of w) (shamt6_of w))) t.1 ∙ ap (λ y. Some (Srli rd y (shamt6_of w))) t.2 ∙ ap (λ y. Some (Srli rd rs1 y)) t.3
encode_of-decodes (Srai rd rs1 imm) w e = let t = word_s6-parts 0x40005013 rd rs1 imm w refl refl e in decode_known 0xfc00707f 0x40005013 w t.0 ∙ ap (λ y. Some (Srai y (rs1_of w) (shamt6_of w))) t.1 ∙ ap (λ y. Some (Srai rd y (shamt6_of w))) t.2 ∙ ap (λ y. Some (Srai rd rs1 y)) t.3
encode_of-decodes (Slliw rd rs1 imm) w e = let t = word_s5-parts 0x101b rd rs1 imm w refl refl e in decode_known 0xfe00707f 0x101b w t.0 ∙ ap (λ y. Some (Slliw y (rs1_of w) (shamt5_of w))) t.1 ∙ ap (λ y. Some (Slliw rd y (shamt5_of w))) t.2 ∙ ap (λ y. Some (Slliw rd rs1 y)) t.3
encode_of-decodes (Srliw rd rs1 imm) w e = let t = word_s5-parts 0x501b rd rs1 imm w refl refl e in decode_known 0xfe00707f 0x501b w t.0 ∙ ap (λ y. Some (Srliw y (rs1_of w) (shamt5_of w))) t.1 ∙ ap (λ y. Some (Srliw rd y (shamt5_of w))) t.2 ∙ ap (λ y. Some (Srliw rd rs1 y)) t.3
encode_of-decodes (Sraiw rd rs1 imm) w e = let t = word_s5-parts 0x4000501b rd rs1 imm w refl refl e in decode_known 0xfe00707f 0x4000501b w t.0 ∙ ap (λ y. Some (Sraiw y (rs1_of w) (shamt5_of w))) t.1 ∙ ap (λ y. Some (Sraiw rd y (shamt5_of w))) t.2 ∙ ap (λ y. Some (Sraiw rd rs1 y)) t.3
encode_of-decodes (Add rd rs1 rs2) w e = let t = word_r-parts 0x33 rd rs1 rs2 w refl refl e in decode_known 0xfe00707f 0x33 w t.0 ∙ ap (λ y. Some (Add y (rs1_of w) (rs2_of w))) t.1 ∙ ap (λ y. Some (Add rd y (rs2_of w))) t.2 ∙ ap (λ y. Some (Add rd rs1 y)) t.3
encode_of-decodes (Sub rd rs1 rs2) w e = let t = word_r-parts 0x40000033 rd rs1 rs2 w refl refl e in decode_known 0xfe00707f 0x40000033 w t.0 ∙ ap (λ y. Some (Sub y (rs1_of w) (rs2_of w))) t.1 ∙ ap (λ y. Some (Sub rd y (rs2_of w))) t.2 ∙ ap (λ y. Some (Sub rd rs1 y)) t.3
encode_of-decodes (Sll rd rs1 rs2) w e = let t = word_r-parts 0x1033 rd rs1 rs2 w refl refl e in decode_known 0xfe00707f 0x1033 w t.0 ∙ ap (λ y. Some (Sll y (rs1_of w) (rs2_of w))) t.1 ∙ ap (λ y. Some (Sll rd y (rs2_of w))) t.2 ∙ ap (λ y. Some (Sll rd rs1 y)) t.3
encode_of-decodes (Slt rd rs1 rs2) w e = let t = word_r-parts 0x2033 rd rs1 rs2 w refl refl e in decode_known 0xfe00707f 0x2033 w t.0 ∙ ap (λ y. Some (Slt y (rs1_of w) (rs2_of w))) t.1 ∙ ap (λ y. Some (Slt rd y (rs2_of w))) t.2 ∙ ap (λ y. Some (Slt rd rs1 y)) t.3
encode_of-decodes (Sltu rd rs1 rs2) w e = let t = word_r-parts 0x3033 rd rs1 rs2 w refl refl e in decode_known 0xfe00707f 0x3033 w t.0 ∙ ap (λ y. Some (Sltu y (rs1_of w) (rs2_of w))) t.1 ∙ ap (λ y. Some (Sltu rd y (rs2_of w))) t.2 ∙ ap (λ y. Some (Sltu rd rs1 y)) t.3
encode_of-decodes (Xor rd rs1 rs2) w e = let t = word_r-parts 0x4033 rd rs1 rs2 w refl refl e in decode_known 0xfe00707f 0x4033 w t.0 ∙ ap (λ y. Some (Xor y (rs1_of w) (rs2_of w))) t.1 ∙ ap (λ y. Some (Xor rd y (rs2_of w))) t.2 ∙ ap (λ y. Some (Xor rd rs1 y)) t.3
encode_of-decodes (Srl rd rs1 rs2) w e = let t = word_r-parts 0x5033 rd rs1 rs2 w refl refl e in decode_known 0xfe00707f 0x5033 w t.0 ∙ ap (λ y. Some (Srl y (rs1_of w) (rs2_of w))) t.1 ∙ ap (λ y. Some (Srl rd y (rs2_of w))) t.2 ∙ ap (λ y. Some (Srl rd rs1 y)) t.3
encode_of-decodes (Sra rd rs1 rs2) w e = let t = word_r-parts 0x40005033 rd rs1 rs2 w refl refl e in decode_known 0xfe00707f 0x40005033 w t.0 ∙ ap (λ y. Some (Sra y (rs1_of w) (rs2_of w))) t.1 ∙ ap (λ y. Some (Sra rd y (rs2_of w))) t.2 ∙ ap (λ y. Some (Sra rd rs1 y)) t.3
encode_of-decodes (Or rd rs1 rs2) w e = let t = word_r-parts 0x6033 rd rs1 rs2 w refl refl e in decode_known 0xfe00707f 0x6033 w t.0 ∙ ap (λ y. Some (Or y (rs1_of w) (rs2_of w))) t.1 ∙ ap (λ y. Some (Or rd y (rs2_of w))) t.2 ∙ ap (λ y. Some (Or rd rs1 y)) t.3
encode_of-decodes (And rd rs1 rs2) w e = let t = word_r-parts 0x7033 rd rs1 rs2 w refl refl e in decode_known 0xfe00707f 0x7033 w t.0 ∙ ap (λ y. Some (And y (rs1_of w) (rs2_of w))) t.1 ∙ ap (λ y. Some (And rd y (rs2_of w))) t.2 ∙ ap (λ y. Some (And rd rs1 y)) t.3
encode_of-decodes (Addw rd rs1 rs2) w e = let t = word_r-parts 0x3b rd rs1 rs2 w refl refl e in decode_known 0xfe00707f 0x3b w t.0 ∙ ap (λ y. Some (Addw y (rs1_of w) (rs2_of w))) t.1 ∙ ap (λ y. Some (Addw rd y (rs2_of w))) t.2 ∙ ap (λ y. Some (Addw rd rs1 y)) t.3
encode_of-decodes (Subw rd rs1 rs2) w e = let t = word_r-parts 0x4000003b rd rs1 rs2 w refl refl e in decode_known 0xfe00707f 0x4000003b w t.0 ∙ ap (λ y. Some (Subw y (rs1_of w) (rs2_of w))) t.1 ∙ ap (λ y. Some (Subw rd y (rs2_of w))) t.2 ∙ ap (λ y. Some (Subw rd rs1 y)) t.3
encode_of-decodes (Sllw rd rs1 rs2) w e = let t = word_r-parts 0x103b rd rs1 rs2 w refl refl e in decode_known 0xfe00707f 0x103b w t.0 ∙ ap (λ y. Some (Sllw y (rs1_of w) (rs2_of w))) t.1 ∙ ap (λ y. Some (Sllw rd y (rs2_of w))) t.2 ∙ ap (λ y. Some (Sllw rd rs1 y)) t.3
encode_of-decodes (Srlw rd rs1 rs2) w e = let t = word_r-parts 0x503b rd rs1 rs2 w refl refl e in decode_known 0xfe00707f 0x503b w t.0 ∙ ap (λ y. Some (Srlw y (rs1_of w) (rs2_of w))) t.1 ∙ ap (λ y. Some (Srlw rd y (rs2_of w))) t.2 ∙ ap (λ y. Some (Srlw rd rs1 y)) t.3
encode_of-decodes (Sraw rd rs1 rs2) w e = let t = word_r-parts 0x4000503b rd rs1 rs2 w refl refl e in decode_known 0xfe00707f 0x4000503b w t.0 ∙ ap (λ y. Some (Sraw y (rs1_of w) (rs2_of w))) t.1 ∙ ap (λ y. Some (Sraw rd y (rs2_of w))) t.2 ∙ ap (λ y. Some (Sraw rd rs1 y)) t.3
encode_of-decodes (Mul rd rs1 rs2) w e = let t = word_r-parts 0x2000033 rd rs1 rs2 w refl refl e in decode_known 0xfe00707f 0x2000033 w t.0 ∙ ap (λ y. Some (Mul y (rs1_of w) (rs2_of w))) t.1 ∙ ap (λ y. Some (Mul rd y (rs2_of w))) t.2 ∙ ap (λ y. Some (Mul rd rs1 y)) t.3
encode_of-decodes (Mulh rd rs1 rs2) w e = let t = word_r-parts 0x2001033 rd rs1 rs2 w refl refl e in decode_known 0xfe00707f 0x2001033 w t.0 ∙ ap (λ y. Some (Mulh y (rs1_of w) (rs2_of w))) t.1 ∙ ap (λ y. Some (Mulh rd y (rs2_of w))) t.2 ∙ ap (λ y. Some (Mulh rd rs1 y)) t.3
encode_of-decodes (Mulhsu rd rs1 rs2) w e = let t = word_r-parts 0x2002033 rd rs1 rs2 w refl refl e in decode_known 0xfe00707f 0x2002033 w t.0 ∙ ap (λ y. Some (Mulhsu y (rs1_of w) (rs2_of w))) t.1 ∙ ap (λ y. Some (Mulhsu rd y (rs2_of w))) t.2 ∙ ap (λ y. Some (Mulhsu rd rs1 y)) t.3
encode_of-decodes (Mulhu rd rs1 rs2) w e = let t = word_r-parts 0x2003033 rd rs1 rs2 w refl refl e in decode_known 0xfe00707f 0x2003033 w t.0 ∙ ap (λ y. Some (Mulhu y (rs1_of w) (rs2_of w))) t.1 ∙ ap (λ y. Some (Mulhu rd y (rs2_of w))) t.2 ∙ ap (λ y. Some (Mulhu rd rs1 y)) t.3
encode_of-decodes (Div rd rs1 rs2) w e = let t = word_r-parts 0x2004033 rd rs1 rs2 w refl refl e in decode_known 0xfe00707f 0x2004033 w t.0 ∙ ap (λ y. Some (Div y (rs1_of w) (rs2_of w))) t.1 ∙ ap (λ y. Some (Div rd y (rs2_of w))) t.2 ∙ ap (λ y. Some (Div rd rs1 y)) t.3
encode_of-decodes (Divu rd rs1 rs2) w e = let t = word_r-parts 0x2005033 rd rs1 rs2 w refl refl e in decode_known 0xfe00707f 0x2005033 w t.0 ∙ ap (λ y. Some (Divu y (rs1_of w) (rs2_of w))) t.1 ∙ ap (λ y. Some (Divu rd y (rs2_of w))) t.2 ∙ ap (λ y. Some (Divu rd rs1 y)) t.3
encode_of-decodes (Rem rd rs1 rs2) w e = let t = word_r-parts 0x2006033 rd rs1 rs2 w refl refl e in decode_known 0xfe00707f 0x2006033 w t.0 ∙ ap (λ y. Some (Rem y (rs1_of w) (rs2_of w))) t.1 ∙ ap (λ y. Some (Rem rd y (rs2_of w))) t.2 ∙ ap (λ y. Some (Rem rd rs1 y)) t.3
encode_of-decodes (Remu rd rs1 rs2) w e = let t = word_r-parts 0x2007033 rd rs1 rs2 w refl refl e in decode_known 0xfe00707f 0x2007033 w t.0 ∙ ap (λ y. Some (Remu y (rs1_of w) (rs2_of w))) t.1 ∙ ap (λ y. Some (Remu rd y (rs2_of w))) t.2 ∙ ap (λ y. Some (Remu rd rs1 y)) t.3
encode_of-decodes (Mulw rd rs1 rs2) w e = let t = word_r-parts 0x200003b rd rs1 rs2 w refl refl e in decode_known 0xfe00707f 0x200003b w t.0 ∙ ap (λ y. Some (Mulw y (rs1_of w) (rs2_of w))) t.1 ∙ ap (λ y. Some (Mulw rd y (rs2_of w))) t.2 ∙ ap (λ y. Some (Mulw rd rs1 y)) t.3
encode_of-decodes (Divw rd rs1 rs2) w e = let t = word_r-parts 0x200403b rd rs1 rs2 w refl refl e in decode_known 0xfe00707f 0x200403b w t.0 ∙ ap (λ y. Some (Divw y (rs1_of w) (rs2_of w))) t.1 ∙ ap (λ y. Some (Divw rd y (rs2_of w))) t.2 ∙ ap (λ y. Some (Divw rd rs1 y)) t.3
encode_of-decodes (Divuw rd rs1 rs2) w e = let t = word_r-parts 0x200503b rd rs1 rs2 w refl refl e in decode_known 0xfe00707f 0x200503b w t.0 ∙ ap (λ y. Some (Divuw y (rs1_of w) (rs2_of w))) t.1 ∙ ap (λ y. Some (Divuw rd y (rs2_of w))) t.2 ∙ ap (λ y. Some (Divuw rd rs1 y)) t.3
encode_of-decodes (Remw rd rs1 rs2) w e = let t = word_r-parts 0x200603b rd rs1 rs2 w refl refl e in decode_known 0xfe00707f 0x200603b w t.0 ∙ ap (λ y. Some (Remw y (rs1_of w) (rs2_of w))) t.1 ∙ ap (λ y. Some (Remw rd y (rs2_of w))) t.2 ∙ ap (λ y. Some (Remw rd rs1 y)) t.3
encode_of-decodes (Remuw rd rs1 rs2) w e = let t = word_r-parts 0x200703b rd rs1 rs2 w refl refl e in decode_known 0xfe00707f 0x200703b w t.0 ∙ ap (λ y. Some (Remuw y (rs1_of w) (rs2_of w))) t.1 ∙ ap (λ y. Some (Remuw rd y (rs2_of w))) t.2 ∙ ap (λ y. Some (Remuw rd rs1 y)) t.3
encode_of-decodes Fence w e = let is : w ≡ 0xf = cc in ap decode_of is
encode_of-decodes FenceI w e = let is : w ≡ 0x100f = cc in ap decode_of is
encode_of-decodes Ecall w e = let is : w ≡ 0x73 = cc in ap decode_of is
encode_of-decodes Ebreak w e = let is : w ≡ 0x100073 = cc in ap decode_of is
encode_of-decodes Sret w e = let is : w ≡ 0x10200073 = cc in ap decode_of is
encode_of-decodes Wfi w e = let is : w ≡ 0x10500073 = cc in ap decode_of is
encode_of-decodes (SfenceVma rs1 rs2) w e = let t = word_v-parts 0x12000073 rs1 rs2 w refl refl e in decode_known 0xfe007fff 0x12000073 w t.0 ∙ ap (λ y. Some (SfenceVma y (rs2_of w))) t.1 ∙ ap (λ y. Some (SfenceVma rs1 y)) t.2
encode_of-decodes (Csrrw rd rs1 csr) w e = let t = word_c-parts 0x1073 rd rs1 csr w refl refl e in decode_known 0x707f 0x1073 w t.0 ∙ ap (λ y. Some (Csrrw y (rs1_of w) (csr_of w))) t.1 ∙ ap (λ y. Some (Csrrw rd y (csr_of w))) t.2 ∙ ap (λ y. Some (Csrrw rd rs1 y)) t.3
encode_of-decodes (Csrrs rd rs1 csr) w e = let t = word_c-parts 0x2073 rd rs1 csr w refl refl e in decode_known 0x707f 0x2073 w t.0 ∙ ap (λ y. Some (Csrrs y (rs1_of w) (csr_of w))) t.1 ∙ ap (λ y. Some (Csrrs rd y (csr_of w))) t.2 ∙ ap (λ y. Some (Csrrs rd rs1 y)) t.3
encode_of-decodes (Csrrc rd rs1 csr) w e = let t = word_c-parts 0x3073 rd rs1 csr w refl refl e in decode_known 0x707f 0x3073 w t.0 ∙ ap (λ y. Some (Csrrc y (rs1_of w) (csr_of w))) t.1 ∙ ap (λ y. Some (Csrrc rd y (csr_of w))) t.2 ∙ ap (λ y. Some (Csrrc rd rs1 y)) t.3
encode_of-decodes (Csrrwi rd imm csr) w e = let t = word_ci-parts 0x5073 rd imm csr w refl refl e in decode_known 0x707f 0x5073 w t.0 ∙ ap (λ y. Some (Csrrwi y (uimm_of w) (csr_of w))) t.1 ∙ ap (λ y. Some (Csrrwi rd y (csr_of w))) t.2 ∙ ap (λ y. Some (Csrrwi rd imm y)) t.3
encode_of-decodes (Csrrsi rd imm csr) w e = let t = word_ci-parts 0x6073 rd imm csr w refl refl e in decode_known 0x707f 0x6073 w t.0 ∙ ap (λ y. Some (Csrrsi y (uimm_of w) (csr_of w))) t.1 ∙ ap (λ y. Some (Csrrsi rd y (csr_of w))) t.2 ∙ ap (λ y. Some (Csrrsi rd imm y)) t.3
encode_of-decodes (Csrrci rd imm csr) w e = let t = word_ci-parts 0x7073 rd imm csr w refl refl e in decode_known 0x707f 0x7073 w t.0 ∙ ap (λ y. Some (Csrrci y (uimm_of w) (csr_of w))) t.1 ∙ ap (λ y. Some (Csrrci rd y (csr_of w))) t.2 ∙ ap (λ y. Some (Csrrci rd imm y)) t.3
encode_of-decodes (LrW rd rs1) w e = let t = word_l-parts 0x1000202f rd rs1 w refl refl e in decode_known 0xf9f0707f 0x1000202f w t.0 ∙ ap (λ y. Some (LrW y (rs1_of w))) t.1 ∙ ap (λ y. Some (LrW rd y)) t.2
encode_of-decodes (ScW rd rs1 rs2) w e = let t = word_a-parts 0x1800202f rd rs1 rs2 w refl refl e in decode_known 0xf800707f 0x1800202f w t.0 ∙ ap (λ y. Some (ScW y (rs1_of w) (rs2_of w))) t.1 ∙ ap (λ y. Some (ScW rd y (rs2_of w))) t.2 ∙ ap (λ y. Some (ScW rd rs1 y)) t.3
encode_of-decodes (AmoswapW rd rs1 rs2) w e = let t = word_a-parts 0x800202f rd rs1 rs2 w refl refl e in decode_known 0xf800707f 0x800202f w t.0 ∙ ap (λ y. Some (AmoswapW y (rs1_of w) (rs2_of w))) t.1 ∙ ap (λ y. Some (AmoswapW rd y (rs2_of w))) t.2 ∙ ap (λ y. Some (AmoswapW rd rs1 y)) t.3
encode_of-decodes (AmoaddW rd rs1 rs2) w e = let t = word_a-parts 0x202f rd rs1 rs2 w refl refl e in decode_known 0xf800707f 0x202f w t.0 ∙ ap (λ y. Some (AmoaddW y (rs1_of w) (rs2_of w))) t.1 ∙ ap (λ y. Some (AmoaddW rd y (rs2_of w))) t.2 ∙ ap (λ y. Some (AmoaddW rd rs1 y)) t.3
encode_of-decodes (AmoxorW rd rs1 rs2) w e = let t = word_a-parts 0x2000202f rd rs1 rs2 w refl refl e in decode_known 0xf800707f 0x2000202f w t.0 ∙ ap (λ y. Some (AmoxorW y (rs1_of w) (rs2_of w))) t.1 ∙ ap (λ y. Some (AmoxorW rd y (rs2_of w))) t.2 ∙ ap (λ y. Some (AmoxorW rd rs1 y)) t.3
encode_of-decodes (AmoandW rd rs1 rs2) w e = let t = word_a-parts 0x6000202f rd rs1 rs2 w refl refl e in decode_known 0xf800707f 0x6000202f w t.0 ∙ ap (λ y. Some (AmoandW y (rs1_of w) (rs2_of w))) t.1 ∙ ap (λ y. Some (AmoandW rd y (rs2_of w))) t.2 ∙ ap (λ y. Some (AmoandW rd rs1 y)) t.3
encode_of-decodes (AmoorW rd rs1 rs2) w e = let t = word_a-parts 0x4000202f rd rs1 rs2 w refl refl e in decode_known 0xf800707f 0x4000202f w t.0 ∙ ap (λ y. Some (AmoorW y (rs1_of w) (rs2_of w))) t.1 ∙ ap (λ y. Some (AmoorW rd y (rs2_of w))) t.2 ∙ ap (λ y. Some (AmoorW rd rs1 y)) t.3
encode_of-decodes (AmominW rd rs1 rs2) w e = let t = word_a-parts 0x8000202f rd rs1 rs2 w refl refl e in decode_known 0xf800707f 0x8000202f w t.0 ∙ ap (λ y. Some (AmominW y (rs1_of w) (rs2_of w))) t.1 ∙ ap (λ y. Some (AmominW rd y (rs2_of w))) t.2 ∙ ap (λ y. Some (AmominW rd rs1 y)) t.3
encode_of-decodes (AmomaxW rd rs1 rs2) w e = let t = word_a-parts 0xa000202f rd rs1 rs2 w refl refl e in decode_known 0xf800707f 0xa000202f w t.0 ∙ ap (λ y. Some (AmomaxW y (rs1_of w) (rs2_of w))) t.1 ∙ ap (λ y. Some (AmomaxW rd y (rs2_of w))) t.2 ∙ ap (λ y. Some (AmomaxW rd rs1 y)) t.3
encode_of-decodes (AmominuW rd rs1 rs2) w e = let t = word_a-parts 0xc000202f rd rs1 rs2 w refl refl e in decode_known 0xf800707f 0xc000202f w t.0 ∙ ap (λ y. Some (AmominuW y (rs1_of w) (rs2_of w))) t.1 ∙ ap (λ y. Some (AmominuW rd y (rs2_of w))) t.2 ∙ ap (λ y. Some (AmominuW rd rs1 y)) t.3
encode_of-decodes (AmomaxuW rd rs1 rs2) w e = let t = word_a-parts 0xe000202f rd rs1 rs2 w refl refl e in decode_known 0xf800707f 0xe000202f w t.0 ∙ ap (λ y. Some (AmomaxuW y (rs1_of w) (rs2_of w))) t.1 ∙ ap (λ y. Some (AmomaxuW rd y (rs2_of w))) t.2 ∙ ap (λ y. Some (AmomaxuW rd rs1 y)) t.3
encode_of-decodes (LrD rd rs1) w e = let t = word_l-parts 0x1000302f rd rs1 w refl refl e in decode_known 0xf9f0707f 0x1000302f w t.0 ∙ ap (λ y. Some (LrD y (rs1_of w))) t.1 ∙ ap (λ y. Some (LrD rd y)) t.2
encode_of-decodes (ScD rd rs1 rs2) w e = let t = word_a-parts 0x1800302f rd rs1 rs2 w refl refl e in decode_known 0xf800707f 0x1800302f w t.0 ∙ ap (λ y. Some (ScD y (rs1_of w) (rs2_of w))) t.1 ∙ ap (λ y. Some (ScD rd y (rs2_of w))) t.2 ∙ ap (λ y. Some (ScD rd rs1 y)) t.3
encode_of-decodes (AmoswapD rd rs1 rs2) w e = let t = word_a-parts 0x800302f rd rs1 rs2 w refl refl e in decode_known 0xf800707f 0x800302f w t.0 ∙ ap (λ y. Some (AmoswapD y (rs1_of w) (rs2_of w))) t.1 ∙ ap (λ y. Some (AmoswapD rd y (rs2_of w))) t.2 ∙ ap (λ y. Some (AmoswapD rd rs1 y)) t.3
encode_of-decodes (AmoaddD rd rs1 rs2) w e = let t = word_a-parts 0x302f rd rs1 rs2 w refl refl e in decode_known 0xf800707f 0x302f w t.0 ∙ ap (λ y. Some (AmoaddD y (rs1_of w) (rs2_of w))) t.1 ∙ ap (λ y. Some (AmoaddD rd y (rs2_of w))) t.2 ∙ ap (λ y. Some (AmoaddD rd rs1 y)) t.3
encode_of-decodes (AmoxorD rd rs1 rs2) w e = let t = word_a-parts 0x2000302f rd rs1 rs2 w refl refl e in decode_known 0xf800707f 0x2000302f w t.0 ∙ ap (λ y. Some (AmoxorD y (rs1_of w) (rs2_of w))) t.1 ∙ ap (λ y. Some (AmoxorD rd y (rs2_of w))) t.2 ∙ ap (λ y. Some (AmoxorD rd rs1 y)) t.3
encode_of-decodes (AmoandD rd rs1 rs2) w e = let t = word_a-parts 0x6000302f rd rs1 rs2 w refl refl e in decode_known 0xf800707f 0x6000302f w t.0 ∙ ap (λ y. Some (AmoandD y (rs1_of w) (rs2_of w))) t.1 ∙ ap (λ y. Some (AmoandD rd y (rs2_of w))) t.2 ∙ ap (λ y. Some (AmoandD rd rs1 y)) t.3
encode_of-decodes (AmoorD rd rs1 rs2) w e = let t = word_a-parts 0x4000302f rd rs1 rs2 w refl refl e in decode_known 0xf800707f 0x4000302f w t.0 ∙ ap (λ y. Some (AmoorD y (rs1_of w) (rs2_of w))) t.1 ∙ ap (λ y. Some (AmoorD rd y (rs2_of w))) t.2 ∙ ap (λ y. Some (AmoorD rd rs1 y)) t.3
encode_of-decodes (AmominD rd rs1 rs2) w e = let t = word_a-parts 0x8000302f rd rs1 rs2 w refl refl e in decode_known 0xf800707f 0x8000302f w t.0 ∙ ap (λ y. Some (AmominD y (rs1_of w) (rs2_of w))) t.1 ∙ ap (λ y. Some (AmominD rd y (rs2_of w))) t.2 ∙ ap (λ y. Some (AmominD rd rs1 y)) t.3
encode_of-decodes (AmomaxD rd rs1 rs2) w e = let t = word_a-parts 0xa000302f rd rs1 rs2 w refl refl e in decode_known 0xf800707f 0xa000302f w t.0 ∙ ap (λ y. Some (AmomaxD y (rs1_of w) (rs2_of w))) t.1 ∙ ap (λ y. Some (AmomaxD rd y (rs2_of w))) t.2 ∙ ap (λ y. Some (AmomaxD rd rs1 y)) t.3
encode_of-decodes (AmominuD rd rs1 rs2) w e = let t = word_a-parts 0xc000302f rd rs1 rs2 w refl refl e in decode_known 0xf800707f 0xc000302f w t.0 ∙ ap (λ y. Some (AmominuD y (rs1_of w) (rs2_of w))) t.1 ∙ ap (λ y. Some (AmominuD rd y (rs2_of w))) t.2 ∙ ap (λ y. Some (AmominuD rd rs1 y)) t.3
encode_of-decodes (AmomaxuD rd rs1 rs2) w e = let t = word_a-parts 0xe000302f rd rs1 rs2 w refl refl e in decode_known 0xf800707f 0xe000302f w t.0 ∙ ap (λ y. Some (AmomaxuD y (rs1_of w) (rs2_of w))) t.1 ∙ ap (λ y. Some (AmomaxuD rd y (rs2_of w))) t.2 ∙ ap (λ y. Some (AmomaxuD rd rs1 y)) t.3

pub word_means : (i : Inst) (o : Option ℕ) → o ≡ encode_of i → IfSome o (λ w. decode_of w ≡ Some i)
word_means i None h = tt
word_means i (Some w) h = encode_of-decodes i w (sym h)
