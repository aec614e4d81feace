-- The word of an instruction is the least that means it: what else a word has are the bits that are no field.
use Rattle.std.proofs.Common.{◌≡◌, ℕ, ◌+◌, ◌-◌, ◌*◌, ◌^◌, ◌<◌, ◌≤◌, refl, sym, ◌∙◌, ap, subst, arith, true, pos, negsuc, pow-suc, add-one, inl, inr}
use Rattle.std.specs.Prelude.{bit_and, Option, Some, None, IsSomeAnd}
use Rattle.std.proofs.lemmas.Bool.Decides.{nat_tests, leb_tells}
use Rattle.rv_decode.specs.declared.Inst.{Inst}
use Rattle.rv_decode.specs.Rows.{rows, decode_of}
use Rattle.rv_decode.specs.Fields.{bits_of, signed, rd_of, rs1_of, rs2_of, csr_of, imm_i_of, imm_s_of, imm_b_of, imm_u_of, imm_j_of, shamt5_of, shamt6_of, uimm_of}
use Rattle.rv_decode.proofs.Known.{known_field}
use Rattle.rv_decode.proofs.Ranges.{EachOf, fit_has, decoded_fits}
use Rattle.rv_words.specs.Words.{wrapped, plain_number, b_put, s_put, j_put, encode_of, word_u, word_j, word_i, word_b, word_s, word_s6, word_s5, word_r, word_v, word_c, word_ci, word_l, word_a}
use Rattle.std.proofs.lemmas.Nat.{and_le_l}
use Rattle.rv_words.proofs.Words.{some_if}
use Rattle.rv_words.proofs.Whole.{has_word, fields_have_word}

wrapped_signed : (k n : ℕ) → n < 2 ^ k + 2 ^ k → wrapped k (signed k n) ≡ n
wrapped_signed k n h =
    let two : 2 ^ (k + 1) ≡ 2 ^ k + 2 ^ k = rw add-one (pow-suc 2 k ∙ (omega arith)) in
    elim (leb_tells (2 ^ k) n) [
      | inl q ↦ (let a : signed k n ≡ negsuc (2 ^ (k + 1) - 1 - n) = grind (arith, nat_tests) in rw a (omega (arith, two)))
      | inr q ↦ (let a : signed k n ≡ pos n = grind (arith, nat_tests) in rw a refl)
    ]

b_pieces : (a b c d : ℕ) → a < 2 → b < 2 → c < 64 → d < 16 → b_put (a * 2 ^ 12 + b * 2 ^ 11 + c * 2 ^ 5 + d * 2 ^ 1) ≡ a * 2 ^ 31 + b * 2 ^ 7 + c * 2 ^ 25 + d * 2 ^ 8
b_pieces a b c d i j k l = omega arith

s_pieces : (a b : ℕ) → a < 128 → b < 32 → s_put (a * 2 ^ 5 + b) ≡ a * 2 ^ 25 + b * 2 ^ 7
s_pieces a b i j = omega arith

j_pieces : (a b c d : ℕ) → a < 2 → b < 256 → c < 2 → d < 1024 → j_put (a * 2 ^ 20 + b * 2 ^ 12 + c * 2 ^ 11 + d * 2 ^ 1) ≡ a * 2 ^ 31 + b * 2 ^ 12 + c * 2 ^ 20 + d * 2 ^ 21
j_pieces a b c d i j k l = omega arith

word_u-least : (v w x : ℕ) → bits_of v 0 7 * 2 ^ 0 ≡ v → bit_and w 0x7f ≡ v → word_u v (rd_of w) (imm_u_of w) ≡ Some x → x ≤ w
word_u-least v w x summed known e =
    let is : x ≡ v + (rd_of w) * 2 ^ 7 + wrapped 31 (imm_u_of w) = (some_if _ _ _ e).1 in
    let k0 : bits_of w 0 7 ≡ bits_of v 0 7 = known_field w 0x7f v 0 7 known refl in
    let raw : wrapped 31 (imm_u_of w) ≡ bits_of w 12 20 * 2 ^ 12 = wrapped_signed 31 (bits_of w 12 20 * 2 ^ 12) (omega arith) in
    let parts : bits_of w 0 7 * 2 ^ 0 + bits_of w 7 5 * 2 ^ 7 + bits_of w 12 20 * 2 ^ 12 ≤ w = omega arith in
    omega arith

word_j-least : (v w x : ℕ) → bits_of v 0 7 * 2 ^ 0 ≡ v → bit_and w 0x7f ≡ v → word_j v (rd_of w) (imm_j_of w) ≡ Some x → x ≤ w
word_j-least v w x summed known e =
    let is : x ≡ v + (rd_of w) * 2 ^ 7 + j_put (wrapped 20 (imm_j_of w)) = (some_if _ _ _ e).1 in
    let k0 : bits_of w 0 7 ≡ bits_of v 0 7 = known_field w 0x7f v 0 7 known refl in
    let raw : wrapped 20 (imm_j_of w) ≡ bits_of w 31 1 * 2 ^ 20 + bits_of w 12 8 * 2 ^ 12 + bits_of w 20 1 * 2 ^ 11 + bits_of w 21 10 * 2 ^ 1 = wrapped_signed 20 (bits_of w 31 1 * 2 ^ 20 + bits_of w 12 8 * 2 ^ 12 + bits_of w 20 1 * 2 ^ 11 + bits_of w 21 10 * 2 ^ 1) (omega arith) in
    let moved : j_put (wrapped 20 (imm_j_of w)) ≡ bits_of w 31 1 * 2 ^ 31 + bits_of w 12 8 * 2 ^ 12 + bits_of w 20 1 * 2 ^ 20 + bits_of w 21 10 * 2 ^ 21 = ap j_put raw ∙ j_pieces (bits_of w 31 1) (bits_of w 12 8) (bits_of w 20 1) (bits_of w 21 10) (omega arith) (omega arith) (omega arith) (omega arith) in
    let parts : bits_of w 0 7 * 2 ^ 0 + bits_of w 7 5 * 2 ^ 7 + bits_of w 12 8 * 2 ^ 12 + bits_of w 20 1 * 2 ^ 20 + bits_of w 21 10 * 2 ^ 21 + bits_of w 31 1 * 2 ^ 31 ≤ w = omega arith in
    omega arith

word_i-least : (v w x : ℕ) → bits_of v 0 7 * 2 ^ 0 + bits_of v 12 3 * 2 ^ 12 ≡ v → bit_and w 0x707f ≡ v → word_i v (rd_of w) (rs1_of w) (imm_i_of w) ≡ Some x → x ≤ w
word_i-least v w x summed known e =
    let is : x ≡ v + (rd_of w) * 2 ^ 7 + (rs1_of w) * 2 ^ 15 + wrapped 11 (imm_i_of w) * 2 ^ 20 = (some_if _ _ _ e).1 in
    let k0 : bits_of w 0 7 ≡ bits_of v 0 7 = known_field w 0x707f v 0 7 known refl in
    let k12 : bits_of w 12 3 ≡ bits_of v 12 3 = known_field w 0x707f v 12 3 known refl in
    let raw : wrapped 11 (imm_i_of w) ≡ bits_of w 20 12 = wrapped_signed 11 (bits_of w 20 12) (omega arith) in
    let parts : bits_of w 0 7 * 2 ^ 0 + bits_of w 7 5 * 2 ^ 7 + bits_of w 12 3 * 2 ^ 12 + bits_of w 15 5 * 2 ^ 15 + bits_of w 20 12 * 2 ^ 20 ≤ w = omega arith in
    omega arith

word_b-least : (v w x : ℕ) → bits_of v 0 7 * 2 ^ 0 + bits_of v 12 3 * 2 ^ 12 ≡ v → bit_and w 0x707f ≡ v → word_b v (rs1_of w) (rs2_of w) (imm_b_of w) ≡ Some x → x ≤ w
word_b-least v w x summed known e =
    let is : x ≡ v + (rs1_of w) * 2 ^ 15 + (rs2_of w) * 2 ^ 20 + b_put (wrapped 12 (imm_b_of w)) = (some_if _ _ _ e).1 in
    let k0 : bits_of w 0 7 ≡ bits_of v 0 7 = known_field w 0x707f v 0 7 known refl in
    let k12 : bits_of w 12 3 ≡ bits_of v 12 3 = known_field w 0x707f v 12 3 known refl in
    let raw : wrapped 12 (imm_b_of w) ≡ bits_of w 31 1 * 2 ^ 12 + bits_of w 7 1 * 2 ^ 11 + bits_of w 25 6 * 2 ^ 5 + bits_of w 8 4 * 2 ^ 1 = wrapped_signed 12 (bits_of w 31 1 * 2 ^ 12 + bits_of w 7 1 * 2 ^ 11 + bits_of w 25 6 * 2 ^ 5 + bits_of w 8 4 * 2 ^ 1) (omega arith) in
    let moved : b_put (wrapped 12 (imm_b_of w)) ≡ bits_of w 31 1 * 2 ^ 31 + bits_of w 7 1 * 2 ^ 7 + bits_of w 25 6 * 2 ^ 25 + bits_of w 8 4 * 2 ^ 8 = ap b_put raw ∙ b_pieces (bits_of w 31 1) (bits_of w 7 1) (bits_of w 25 6) (bits_of w 8 4) (omega arith) (omega arith) (omega arith) (omega arith) in
    let parts : bits_of w 0 7 * 2 ^ 0 + bits_of w 7 1 * 2 ^ 7 + bits_of w 8 4 * 2 ^ 8 + bits_of w 12 3 * 2 ^ 12 + bits_of w 15 5 * 2 ^ 15 + bits_of w 20 5 * 2 ^ 20 + bits_of w 25 6 * 2 ^ 25 + bits_of w 31 1 * 2 ^ 31 ≤ w = omega arith in
    omega arith

word_s-least : (v w x : ℕ) → bits_of v 0 7 * 2 ^ 0 + bits_of v 12 3 * 2 ^ 12 ≡ v → bit_and w 0x707f ≡ v → word_s v (rs1_of w) (rs2_of w) (imm_s_of w) ≡ Some x → x ≤ w
word_s-least v w x summed known e =
    let is : x ≡ v + (rs1_of w) * 2 ^ 15 + (rs2_of w) * 2 ^ 20 + s_put (wrapped 11 (imm_s_of w)) = (some_if _ _ _ e).1 in
    let k0 : bits_of w 0 7 ≡ bits_of v 0 7 = known_field w 0x707f v 0 7 known refl in
    let k12 : bits_of w 12 3 ≡ bits_of v 12 3 = known_field w 0x707f v 12 3 known refl in
    let raw : wrapped 11 (imm_s_of w) ≡ bits_of w 25 7 * 2 ^ 5 + bits_of w 7 5 = wrapped_signed 11 (bits_of w 25 7 * 2 ^ 5 + bits_of w 7 5) (omega arith) in
    let moved : s_put (wrapped 11 (imm_s_of w)) ≡ bits_of w 25 7 * 2 ^ 25 + bits_of w 7 5 * 2 ^ 7 = ap s_put raw ∙ s_pieces (bits_of w 25 7) (bits_of w 7 5) (omega arith) (omega arith) in
    let parts : bits_of w 0 7 * 2 ^ 0 + bits_of w 7 5 * 2 ^ 7 + bits_of w 12 3 * 2 ^ 12 + bits_of w 15 5 * 2 ^ 15 + bits_of w 20 5 * 2 ^ 20 + bits_of w 25 7 * 2 ^ 25 ≤ w = omega arith in
    omega arith

word_s6-least : (v w x : ℕ) → bits_of v 0 7 * 2 ^ 0 + bits_of v 12 3 * 2 ^ 12 + bits_of v 26 6 * 2 ^ 26 ≡ v → bit_and w 0xfc00707f ≡ v → word_s6 v (rd_of w) (rs1_of w) (shamt6_of w) ≡ Some x → x ≤ w
word_s6-least v w x summed known e =
    let is : x ≡ v + (rd_of w) * 2 ^ 7 + (rs1_of w) * 2 ^ 15 + plain_number (shamt6_of w) * 2 ^ 20 = (some_if _ _ _ e).1 in
    let k0 : bits_of w 0 7 ≡ bits_of v 0 7 = known_field w 0xfc00707f v 0 7 known refl in
    let k12 : bits_of w 12 3 ≡ bits_of v 12 3 = known_field w 0xfc00707f v 12 3 known refl in
    let k26 : bits_of w 26 6 ≡ bits_of v 26 6 = known_field w 0xfc00707f v 26 6 known refl in
    let parts : bits_of w 0 7 * 2 ^ 0 + bits_of w 7 5 * 2 ^ 7 + bits_of w 12 3 * 2 ^ 12 + bits_of w 15 5 * 2 ^ 15 + bits_of w 20 6 * 2 ^ 20 + bits_of w 26 6 * 2 ^ 26 ≤ w = omega arith in
    omega arith

word_s5-least : (v w x : ℕ) → bits_of v 0 7 * 2 ^ 0 + bits_of v 12 3 * 2 ^ 12 + bits_of v 25 7 * 2 ^ 25 ≡ v → bit_and w 0xfe00707f ≡ v → word_s5 v (rd_of w) (rs1_of w) (shamt5_of w) ≡ Some x → x ≤ w
word_s5-least v w x summed known e =
    let is : x ≡ v + (rd_of w) * 2 ^ 7 + (rs1_of w) * 2 ^ 15 + plain_number (shamt5_of w) * 2 ^ 20 = (some_if _ _ _ e).1 in
    let k0 : bits_of w 0 7 ≡ bits_of v 0 7 = known_field w 0xfe00707f v 0 7 known refl in
    let k12 : bits_of w 12 3 ≡ bits_of v 12 3 = known_field w 0xfe00707f v 12 3 known refl in
    let k25 : bits_of w 25 7 ≡ bits_of v 25 7 = known_field w 0xfe00707f v 25 7 known refl in
    let parts : bits_of w 0 7 * 2 ^ 0 + bits_of w 7 5 * 2 ^ 7 + bits_of w 12 3 * 2 ^ 12 + bits_of w 15 5 * 2 ^ 15 + bits_of w 20 5 * 2 ^ 20 + bits_of w 25 7 * 2 ^ 25 ≤ w = omega arith in
    omega arith

word_r-least : (v w x : ℕ) → bits_of v 0 7 * 2 ^ 0 + bits_of v 12 3 * 2 ^ 12 + bits_of v 25 7 * 2 ^ 25 ≡ v → bit_and w 0xfe00707f ≡ v → word_r v (rd_of w) (rs1_of w) (rs2_of w) ≡ Some x → x ≤ w
word_r-least v w x summed known e =
    let is : x ≡ v + (rd_of w) * 2 ^ 7 + (rs1_of w) * 2 ^ 15 + (rs2_of w) * 2 ^ 20 = (some_if _ _ _ e).1 in
    let k0 : bits_of w 0 7 ≡ bits_of v 0 7 = known_field w 0xfe00707f v 0 7 known refl in
    let k12 : bits_of w 12 3 ≡ bits_of v 12 3 = known_field w 0xfe00707f v 12 3 known refl in
    let k25 : bits_of w 25 7 ≡ bits_of v 25 7 = known_field w 0xfe00707f v 25 7 known refl in
    let parts : bits_of w 0 7 * 2 ^ 0 + bits_of w 7 5 * 2 ^ 7 + bits_of w 12 3 * 2 ^ 12 + bits_of w 15 5 * 2 ^ 15 + bits_of w 20 5 * 2 ^ 20 + bits_of w 25 7 * 2 ^ 25 ≤ w = omega arith in
    omega arith

word_v-least : (v w x : ℕ) → bits_of v 0 15 * 2 ^ 0 + bits_of v 25 7 * 2 ^ 25 ≡ v → bit_and w 0xfe007fff ≡ v → word_v v (rs1_of w) (rs2_of w) ≡ Some x → x ≤ w
word_v-least v w x summed known e =
    let is : x ≡ v + (rs1_of w) * 2 ^ 15 + (rs2_of w) * 2 ^ 20 = (some_if _ _ _ e).1 in
    let k0 : bits_of w 0 15 ≡ bits_of v 0 15 = known_field w 0xfe007fff v 0 15 known refl in
    let k25 : bits_of w 25 7 ≡ bits_of v 25 7 = known_field w 0xfe007fff v 25 7 known refl in
    let parts : bits_of w 0 15 * 2 ^ 0 + bits_of w 15 5 * 2 ^ 15 + bits_of w 20 5 * 2 ^ 20 + bits_of w 25 7 * 2 ^ 25 ≤ w = omega arith in
    omega arith

word_c-least : (v w x : ℕ) → bits_of v 0 7 * 2 ^ 0 + bits_of v 12 3 * 2 ^ 12 ≡ v → bit_and w 0x707f ≡ v → word_c v (rd_of w) (rs1_of w) (csr_of w) ≡ Some x → x ≤ w
word_c-least v w x summed known e =
    let is : x ≡ v + (rd_of w) * 2 ^ 7 + (rs1_of w) * 2 ^ 15 + (csr_of w) * 2 ^ 20 = (some_if _ _ _ e).1 in
    let k0 : bits_of w 0 7 ≡ bits_of v 0 7 = known_field w 0x707f v 0 7 known refl in
    let k12 : bits_of w 12 3 ≡ bits_of v 12 3 = known_field w 0x707f v 12 3 known refl in
    let parts : bits_of w 0 7 * 2 ^ 0 + bits_of w 7 5 * 2 ^ 7 + bits_of w 12 3 * 2 ^ 12 + bits_of w 15 5 * 2 ^ 15 + bits_of w 20 12 * 2 ^ 20 ≤ w = omega arith in
    omega arith

word_ci-least : (v w x : ℕ) → bits_of v 0 7 * 2 ^ 0 + bits_of v 12 3 * 2 ^ 12 ≡ v → bit_and w 0x707f ≡ v → word_ci v (rd_of w) (uimm_of w) (csr_of w) ≡ Some x → x ≤ w
word_ci-least v w x summed known e =
    let is : x ≡ v + (rd_of w) * 2 ^ 7 + plain_number (uimm_of w) * 2 ^ 15 + (csr_of w) * 2 ^ 20 = (some_if _ _ _ e).1 in
    let k0 : bits_of w 0 7 ≡ bits_of v 0 7 = known_field w 0x707f v 0 7 known refl in
    let k12 : bits_of w 12 3 ≡ bits_of v 12 3 = known_field w 0x707f v 12 3 known refl in
    let parts : bits_of w 0 7 * 2 ^ 0 + bits_of w 7 5 * 2 ^ 7 + bits_of w 12 3 * 2 ^ 12 + bits_of w 15 5 * 2 ^ 15 + bits_of w 20 12 * 2 ^ 20 ≤ w = omega arith in
    omega arith

word_l-least : (v w x : ℕ) → bits_of v 0 7 * 2 ^ 0 + bits_of v 12 3 * 2 ^ 12 + bits_of v 27 5 * 2 ^ 27 + bits_of v 20 5 * 2 ^ 20 ≡ v → bit_and w 0xf9f0707f ≡ v → word_l v (rd_of w) (rs1_of w) ≡ Some x → x ≤ w
word_l-least v w x summed known e =
    let is : x ≡ v + (rd_of w) * 2 ^ 7 + (rs1_of w) * 2 ^ 15 = (some_if _ _ _ e).1 in
    let k0 : bits_of w 0 7 ≡ bits_of v 0 7 = known_field w 0xf9f0707f v 0 7 known refl in
    let k12 : bits_of w 12 3 ≡ bits_of v 12 3 = known_field w 0xf9f0707f v 12 3 known refl in
    let k27 : bits_of w 27 5 ≡ bits_of v 27 5 = known_field w 0xf9f0707f v 27 5 known refl in
    let k20 : bits_of w 20 5 ≡ bits_of v 20 5 = known_field w 0xf9f0707f v 20 5 known refl in
    let parts : bits_of w 0 7 * 2 ^ 0 + bits_of w 7 5 * 2 ^ 7 + bits_of w 12 3 * 2 ^ 12 + bits_of w 15 5 * 2 ^ 15 + bits_of w 20 5 * 2 ^ 20 + bits_of w 27 5 * 2 ^ 27 ≤ w = omega arith in
    omega arith

word_a-least : (v w x : ℕ) → bits_of v 0 7 * 2 ^ 0 + bits_of v 12 3 * 2 ^ 12 + bits_of v 27 5 * 2 ^ 27 ≡ v → bit_and w 0xf800707f ≡ v → word_a v (rd_of w) (rs1_of w) (rs2_of w) ≡ Some x → x ≤ w
word_a-least v w x summed known e =
    let is : x ≡ v + (rd_of w) * 2 ^ 7 + (rs1_of w) * 2 ^ 15 + (rs2_of w) * 2 ^ 20 = (some_if _ _ _ e).1 in
    let k0 : bits_of w 0 7 ≡ bits_of v 0 7 = known_field w 0xf800707f v 0 7 known refl in
    let k12 : bits_of w 12 3 ≡ bits_of v 12 3 = known_field w 0xf800707f v 12 3 known refl in
    let k27 : bits_of w 27 5 ≡ bits_of v 27 5 = known_field w 0xf800707f v 27 5 known refl in
    let parts : bits_of w 0 7 * 2 ^ 0 + bits_of w 7 5 * 2 ^ 7 + bits_of w 12 3 * 2 ^ 12 + bits_of w 15 5 * 2 ^ 15 + bits_of w 20 5 * 2 ^ 20 + bits_of w 27 5 * 2 ^ 27 ≤ w = omega arith in
    omega arith

-- the bits of a word under a mask are at most the word
under : (m w : ℕ) → bit_and w m ≤ w
under m w = and_le_l w m

all_zero : (m v w x : ℕ) → bit_and w m ≡ v → v ≡ v → Some v ≡ Some x → x ≤ w
all_zero m v w x k r e = let a : bit_and w m ≤ w = under m w in let same : v ≡ x = cc in omega arith

each_least : (w : ℕ) → EachOf (λ i. (x : ℕ) → encode_of i ≡ Some x → x ≤ w) rows w
unfolding rows encode_of
each_least w = (
  (λ k x e. word_u-least 0x37 w x refl k e),
  (
    (λ k x e. word_u-least 0x17 w x refl k e),
    (
      (λ k x e. word_j-least 0x6f w x refl k e),
      (
        (λ k x e. word_i-least 0x67 w x refl k e),
        (
          (λ k x e. word_b-least 0x63 w x refl k e),
          (
            (λ k x e. word_b-least 0x1063 w x refl k e),
            (
              (λ k x e. word_b-least 0x4063 w x refl k e),
              (
                (λ k x e. word_b-least 0x5063 w x refl k e),
                (
                  (λ k x e. word_b-least 0x6063 w x refl k e),
                  (
                    (λ k x e. word_b-least 0x7063 w x refl k e),
                    (
                      (λ k x e. word_i-least 0x3 w x refl k e),
                      (
                        (λ k x e. word_i-least 0x1003 w x refl k e),
                        (
                          (λ k x e. word_i-least 0x2003 w x refl k e),
                          (
                            (λ k x e. word_i-least 0x3003 w x refl k e),
                            (
                              (λ k x e. word_i-least 0x4003 w x refl k e),
                              (
                                (λ k x e. word_i-least 0x5003 w x refl k e),
                                (
                                  (λ k x e. word_i-least 0x6003 w x refl k e),
                                  (
                                    (λ k x e. word_s-least 0x23 w x refl k e),
                                    (
                                      (λ k x e. word_s-least 0x1023 w x refl k e),
                                      (
                                        (λ k x e. word_s-least 0x2023 w x refl k e),
                                        (
                                          (λ k x e. word_s-least 0x3023 w x refl k e),
                                          (
                                            (λ k x e. word_i-least 0x13 w x refl k e),
                                            (
                                              (λ k x e. word_i-least 0x2013 w x refl k e),
                                              (
                                                (λ k x e. word_i-least 0x3013 w x refl k e),
                                                (
                                                  (λ k x e. word_i-least 0x4013 w x refl k e),
                                                  (
                                                    (λ k x e. word_i-least 0x6013 w x refl k e),
                                                    (
                                                      (λ k x e. word_i-least 0x7013 w x refl k e),
                                                      (
                                                        (λ k x e. word_i-least 0x1b w x refl k e),
                                                        (
                                                          (λ k x e. word_s6-least 0x1013 w x refl k e),
                                                          (
                                                            (λ k x e. word_s6-least 0x5013 w x refl k e),
                                                            (
                                                              (λ k x e. word_s6-least 0x40005013 w x refl k e),
                                                              (
                                                                (λ k x e. word_s5-least 0x101b w x refl k e),
                                                                (
                                                                  (λ k x e. word_s5-least 0x501b w x refl k e),
                                                                  (
                                                                    (λ k x e. word_s5-least 0x4000501b w x refl k e),
                                                                    (
                                                                      (λ k x e. word_r-least 0x33 w x refl k e),
                                                                      (
                                                                        (λ k x e. word_r-least 0x40000033 w x refl k e),
                                                                        (
                                                                          (λ k x e. word_r-least 0x1033 w x refl k e),
                                                                          (
                                                                            (λ k x e. word_r-least 0x2033 w x refl k e),
                                                                            (
                                                                              (λ k x e. word_r-least 0x3033 w x refl k e),
                                                                              (
                                                                                (λ k x e. word_r-least 0x4033 w x refl k e),
                                                                                (
                                                                                  (λ k x e. word_r-least 0x5033 w x refl k e),
                                                                                  (
                                                                                    (λ k x e. word_r-least 0x40005033 w x refl k e),
                                                                                    (
                                                                                      (λ k x e. word_r-least 0x6033 w x refl k e),
                                                                                      (
                                                                                        (λ k x e. word_r-least 0x7033 w x refl k e),
                                                                                        (
                                                                                          (λ k x e. word_r-least 0x3b w x refl k e),
                                                                                          (
                                                                                            (λ k x e. word_r-least 0x4000003b w x refl k e),
                                                                                            (
                                                                                              (λ k x e. word_r-least 0x103b w x refl k e),
                                                                                              (
                                                                                                (λ k x e. word_r-least 0x503b w x refl k e),
                                                                                                (
                                                                                                  (λ k x e. word_r-least 0x4000503b w x refl k e),
                                                                                                  (
                                                                                                    (λ k x e. word_r-least 0x2000033 w x refl k e),
                                                                                                    (
                                                                                                      (λ k x e. word_r-least 0x2001033 w x refl k e),
                                                                                                      (
                                                                                                        (λ k x e. word_r-least 0x2002033 w x refl k e),
                                                                                                        (
                                                                                                          (λ k x e. word_r-least 0x2003033 w x refl k e),
                                                                                                          (
                                                                                                            (λ k x e. word_r-least 0x2004033 w x refl k e),
                                                                                                            (
                                                                                                              (λ k x e. word_r-least 0x2005033 w x refl k e),
                                                                                                              (
                                                                                                                (λ k x e. word_r-least 0x2006033 w x refl k e),
                                                                                                                (
                                                                                                                  (λ k x e. word_r-least 0x2007033 w x refl k e),
                                                                                                                  (
                                                                                                                    (λ k x e. word_r-least 0x200003b w x refl k e),
                                                                                                                    (
                                                                                                                      (λ k x e. word_r-least 0x200403b w x refl k e),
                                                                                                                      (
                                                                                                                        (λ k x e. word_r-least 0x200503b w x refl k e),
                                                                                                                        (
                                                                                                                          (λ k x e. word_r-least 0x200603b w x refl k e),
                                                                                                                          (
                                                                                                                            (λ k x e. word_r-least 0x200703b w x refl k e),
                                                                                                                            (
                                                                                                                              (λ k x e. all_zero 0x707f 0xf w x k refl e),
                                                                                                                              (
                                                                                                                                (λ k x e. all_zero 0x707f 0x100f w x k refl e),
                                                                                                                                (
                                                                                                                                  (λ k x e. all_zero 0xffffffff 0x73 w x k refl e),
                                                                                                                                  (
                                                                                                                                    (λ k x e. all_zero 0xffffffff 0x100073 w x k refl e),
                                                                                                                                    (
                                                                                                                                      (λ k x e. all_zero 0xffffffff 0x10200073 w x k refl e),
                                                                                                                                      (
                                                                                                                                        (λ k x e. all_zero 0xffffffff 0x10500073 w x k refl e),
                                                                                                                                        (
                                                                                                                                          (λ k x e. word_v-least 0x12000073 w x refl k e),
                                                                                                                                          (
                                                                                                                                            (λ k x e. word_c-least 0x1073 w x refl k e),
                                                                                                                                            (
                                                                                                                                              (λ k x e. word_c-least 0x2073 w x refl k e),
                                                                                                                                              (
                                                                                                                                                (λ k x e. word_c-least 0x3073 w x refl k e),
                                                                                                                                                (
                                                                                                                                                  (λ k x e. word_ci-least 0x5073 w x refl k e),
                                                                                                                                                  (
                                                                                                                                                    (λ k x e. word_ci-least 0x6073 w x refl k e),
                                                                                                                                                    (
                                                                                                                                                      (λ k x e. word_ci-least 0x7073 w x refl k e),
                                                                                                                                                      (
                                                                                                                                                        (λ k x e. word_l-least 0x1000202f w x refl k e),
                                                                                                                                                        (
                                                                                                                                                          (λ k x e. word_a-least 0x1800202f w x refl k e),
                                                                                                                                                          (
                                                                                                                                                            (λ k x e. word_a-least 0x800202f w x refl k e),
                                                                                                                                                            (
                                                                                                                                                              (λ k x e. word_a-least 0x202f w x refl k e),
                                                                                                                                                              (
                                                                                                                                                                (λ k x e. word_a-least 0x2000202f w x refl k e),
                                                                                                                                                                (
                                                                                                                                                                  (λ k x e. word_a-least 0x6000202f w x refl k e),
                                                                                                                                                                  (
                                                                                                                                                                    (λ k x e. word_a-least 0x4000202f w x refl k e),
                                                                                                                                                                    (
                                                                                                                                                                      (λ k x e. word_a-least 0x8000202f w x refl k e),
                                                                                                                                                                      (
                                                                                                                                                                        (λ k x e. word_a-least 0xa000202f w x refl k e),
                                                                                                                                                                        (
                                                                                                                                                                          (λ k x e. word_a-least 0xc000202f w x refl k e),
                                                                                                                                                                          (
                                                                                                                                                                            (λ k x e. word_a-least 0xe000202f w x refl k e),
                                                                                                                                                                            (
                                                                                                                                                                              (λ k x e. word_l-least 0x1000302f w x refl k e),
                                                                                                                                                                              (
                                                                                                                                                                                (λ k x e. word_a-least 0x1800302f w x refl k e),
                                                                                                                                                                                (
                                                                                                                                                                                  (λ k x e. word_a-least 0x800302f w x refl k e),
                                                                                                                                                                                  (
                                                                                                                                                                                    (λ k x e. word_a-least 0x302f w x refl k e),
                                                                                                                                                                                    (
                                                                                                                                                                                      (λ k x e. word_a-least 0x2000302f w x refl k e),
                                                                                                                                                                                      (
                                                                                                                                                                                        (λ k x e. word_a-least 0x6000302f w x refl k e),
                                                                                                                                                                                        (
                                                                                                                                                                                          (λ k x e. word_a-least 0x4000302f w x refl k e),
                                                                                                                                                                                          (
                                                                                                                                                                                            (λ k x e. word_a-least 0x8000302f w x refl k e),
                                                                                                                                                                                            (
                                                                                                                                                                                              (λ k x e. word_a-least 0xa000302f w x refl k e),
                                                                                                                                                                                              (
                                                                                                                                                                                                (λ k x e. word_a-least 0xc000302f w x refl k e),
                                                                                                                                                                                                (
                                                                                                                                                                                                  (λ k x e. word_a-least 0xe000302f w x refl k e),
                                                                                                                                                                                                  tt,
                                                                                                                                                                                                ),
                                                                                                                                                                                              ),
                                                                                                                                                                                            ),
                                                                                                                                                                                          ),
                                                                                                                                                                                        ),
                                                                                                                                                                                      ),
                                                                                                                                                                                    ),
                                                                                                                                                                                  ),
                                                                                                                                                                                ),
                                                                                                                                                                              ),
                                                                                                                                                                            ),
                                                                                                                                                                          ),
                                                                                                                                                                        ),
                                                                                                                                                                      ),
                                                                                                                                                                    ),
                                                                                                                                                                  ),
                                                                                                                                                                ),
                                                                                                                                                              ),
                                                                                                                                                            ),
                                                                                                                                                          ),
                                                                                                                                                        ),
                                                                                                                                                      ),
                                                                                                                                                    ),
                                                                                                                                                  ),
                                                                                                                                                ),
                                                                                                                                              ),
                                                                                                                                            ),
                                                                                                                                          ),
                                                                                                                                        ),
                                                                                                                                      ),
                                                                                                                                    ),
                                                                                                                                  ),
                                                                                                                                ),
                                                                                                                              ),
                                                                                                                            ),
                                                                                                                          ),
                                                                                                                        ),
                                                                                                                      ),
                                                                                                                    ),
                                                                                                                  ),
                                                                                                                ),
                                                                                                              ),
                                                                                                            ),
                                                                                                          ),
                                                                                                        ),
                                                                                                      ),
                                                                                                    ),
                                                                                                  ),
                                                                                                ),
                                                                                              ),
                                                                                            ),
                                                                                          ),
                                                                                        ),
                                                                                      ),
                                                                                    ),
                                                                                  ),
                                                                                ),
                                                                              ),
                                                                            ),
                                                                          ),
                                                                        ),
                                                                      ),
                                                                    ),
                                                                  ),
                                                                ),
                                                              ),
                                                            ),
                                                          ),
                                                        ),
                                                      ),
                                                    ),
                                                  ),
                                                ),
                                              ),
                                            ),
                                          ),
                                        ),
                                      ),
                                    ),
                                  ),
                                ),
                              ),
                            ),
                          ),
                        ),
                      ),
                    ),
                  ),
                ),
              ),
            ),
          ),
        ),
      ),
    ),
  ),
)

pub at_most : (w : ℕ) (i : Inst) → decode_of w ≡ Some i → (x : ℕ) → encode_of i ≡ Some x → x ≤ w
unfolding decode_of
at_most w i e = fit_has (λ j. (x : ℕ) → encode_of j ≡ Some x → x ≤ w) rows w i (each_least w) e

pub least_word : (i : Inst) (o : Option ℕ) → o ≡ encode_of i → (w : ℕ) → decode_of w ≡ Some i → IsSomeAnd o (λ x. x ≤ w)
least_word i None h w e =
    let t : has_word (encode_of i) ≡ true = fields_have_word i (decoded_fits w i e) in
    let u : has_word None ≡ true = subst (λ (y : Option ℕ). has_word y ≡ true) (sym h) t in
    absurd (cc)
least_word i (Some x) h w e = at_most w i e x (sym h)
