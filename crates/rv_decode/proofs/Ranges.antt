-- The fields of what a word or a halfword means are in their ranges.
use Rattle.std.proofs.Common.{◌≡◌, ℕ, ◌+◌, ◌-◌, ◌*◌, ◌%◌, ◌^◌, ◌<◌, ◌≤◌, refl, ◌∙◌, subst, arith, Bool, true, false, cond, eqb, eqb-true, ℤ, pos, negsuc, pow-suc, add-one, List, [], ◌∷◌, inl, inr}
use Rattle.std.specs.Prelude.{bit_and, Option, Some, ◌&&◌}
use Rattle.std.proofs.lemmas.Bool.Decides.{nat_tests, leb_tells}
use Rattle.rv_decode.specs.declared.Inst.{Inst}
use Rattle.rv_decode.specs.Fields.{bits_of, signed, rd_of, rs1_of, rs2_of, csr_of, imm_i_of, imm_s_of, imm_b_of, imm_u_of, imm_j_of, shamt5_of, shamt6_of, uimm_of}
use Rattle.rv_decode.specs.CompressedFields.{small_of, frame_offset_of, upper_of, jump_of, branch_offset_of}
use Rattle.rv_decode.specs.Rows.{Row, first_fit, rows, decode_of, compressed_rows, decode16_of}
use Rattle.rv_decode.specs.Ranges.{IsBelow, IsPlain, IsEven, IsUpper, FieldsFit}

-- a fact of what each row makes of a word of it
abbrev pub EachOf : (Inst → Type 0) → List Row → ℕ → Type 0
EachOf P [] w = Unit {0}
EachOf P (r ∷ rs) w = (bit_and w r.mask ≡ r.value → P (r.reads w)) × EachOf P rs w

signed_low : (k n : ℕ) → n < 2 ^ k → signed k n ≡ pos n
signed_low k n h = grind (arith, nat_tests)

signed_high : (k n : ℕ) → 2 ^ k ≤ n → signed k n ≡ negsuc (2 ^ (k + 1) - 1 - n)
signed_high k n h = grind (arith, nat_tests)

twice : (k : ℕ) → 2 ^ (k + 1) ≡ 2 ^ k + 2 ^ k
twice k = rw add-one (pow-suc 2 k ∙ (omega arith))

pub signed_below : (k n : ℕ) → n < 2 ^ k + 2 ^ k → IsBelow k (signed k n)
signed_below k n h =
    elim (leb_tells (2 ^ k) n) [
      | inl q ↦ rw (signed_high k n q.1) (omega (arith, twice k))
      | inr q ↦ rw (signed_low k n q.1) (omega arith)
    ]

pub signed_even : (k n : ℕ) → n < 2 ^ k + 2 ^ k → n % 2 ≡ 0 → IsEven (signed k n)
signed_even k n h e =
    elim (leb_tells (2 ^ k) n) [
      | inl q ↦ rw (signed_high k n q.1) (omega (arith, twice k))
      | inr q ↦ rw (signed_low k n q.1) e
    ]

pub signed_upper : (n : ℕ) → n < 2 ^ 32 → n % 2 ^ 12 ≡ 0 → IsUpper (signed 31 n)
signed_upper n h e =
    elim (leb_tells (2 ^ 31) n) [
      | inl q ↦ rw (signed_high 31 n q.1) ((omega arith, omega arith))
      | inr q ↦ rw (signed_low 31 n q.1) ((omega arith, omega arith))
    ]

pub signed_upper_18 : (n : ℕ) → n < 2 ^ 18 → n % 2 ^ 12 ≡ 0 → IsUpper (signed 17 n)
signed_upper_18 n h e =
    elim (leb_tells (2 ^ 17) n) [
      | inl q ↦ rw (signed_high 17 n q.1) ((omega arith, omega arith))
      | inr q ↦ rw (signed_low 17 n q.1) ((omega arith, omega arith))
    ]

pub wider : (k j : ℕ) (z : ℤ) → 2 ^ k ≤ 2 ^ j → IsBelow k z → IsBelow j z
wider k j (pos n) h b = omega arith
wider k j (negsuc n) h b = omega arith

pub imm_u_fits : (w : ℕ) → IsUpper (imm_u_of w)
imm_u_fits w = signed_upper (bits_of w 12 20 * 2 ^ 12) (omega arith) (omega arith)

pub imm_j_fits : (w : ℕ) → IsBelow 20 (imm_j_of w) × IsEven (imm_j_of w)
imm_j_fits w = (signed_below 20 (bits_of w 31 1 * 2 ^ 20 + bits_of w 12 8 * 2 ^ 12 + bits_of w 20 1 * 2 ^ 11 + bits_of w 21 10 * 2 ^ 1) (omega arith), signed_even 20 (bits_of w 31 1 * 2 ^ 20 + bits_of w 12 8 * 2 ^ 12 + bits_of w 20 1 * 2 ^ 11 + bits_of w 21 10 * 2 ^ 1) (omega arith) (omega arith))

pub imm_i_fits : (w : ℕ) → IsBelow 11 (imm_i_of w)
imm_i_fits w = signed_below 11 (bits_of w 20 12) (omega arith)

pub imm_b_fits : (w : ℕ) → IsBelow 12 (imm_b_of w) × IsEven (imm_b_of w)
imm_b_fits w = (signed_below 12 (bits_of w 31 1 * 2 ^ 12 + bits_of w 7 1 * 2 ^ 11 + bits_of w 25 6 * 2 ^ 5 + bits_of w 8 4 * 2 ^ 1) (omega arith), signed_even 12 (bits_of w 31 1 * 2 ^ 12 + bits_of w 7 1 * 2 ^ 11 + bits_of w 25 6 * 2 ^ 5 + bits_of w 8 4 * 2 ^ 1) (omega arith) (omega arith))

pub imm_s_fits : (w : ℕ) → IsBelow 11 (imm_s_of w)
imm_s_fits w = signed_below 11 (bits_of w 25 7 * 2 ^ 5 + bits_of w 7 5) (omega arith)

pub small_fits : (h : ℕ) → IsBelow 11 (small_of h)
small_fits h = wider 5 11 (small_of h) (omega arith) (signed_below 5 (bits_of h 12 1 * 2 ^ 5 + bits_of h 2 5) (omega arith))

pub frame_fits : (h : ℕ) → IsBelow 11 (frame_offset_of h)
frame_fits h = wider 9 11 (frame_offset_of h) (omega arith) (signed_below 9 (bits_of h 12 1 * 2 ^ 9 + bits_of h 6 1 * 2 ^ 4 + bits_of h 5 1 * 2 ^ 6 + bits_of h 3 2 * 2 ^ 7 + bits_of h 2 1 * 2 ^ 5) (omega arith))

pub upper_fits : (h : ℕ) → IsUpper (upper_of h)
upper_fits h = signed_upper_18 (bits_of h 12 1 * 2 ^ 17 + bits_of h 2 5 * 2 ^ 12) (omega arith) (omega arith)

pub jump_fits : (h : ℕ) → IsBelow 20 (jump_of h) × IsEven (jump_of h)
jump_fits h = (wider 11 20 (jump_of h) (omega arith) (signed_below 11 (bits_of h 12 1 * 2 ^ 11 + bits_of h 11 1 * 2 ^ 4 + bits_of h 9 2 * 2 ^ 8 + bits_of h 8 1 * 2 ^ 10 + bits_of h 7 1 * 2 ^ 6 + bits_of h 6 1 * 2 ^ 7 + bits_of h 3 3 * 2 ^ 1 + bits_of h 2 1 * 2 ^ 5) (omega arith)), signed_even 11 (bits_of h 12 1 * 2 ^ 11 + bits_of h 11 1 * 2 ^ 4 + bits_of h 9 2 * 2 ^ 8 + bits_of h 8 1 * 2 ^ 10 + bits_of h 7 1 * 2 ^ 6 + bits_of h 6 1 * 2 ^ 7 + bits_of h 3 3 * 2 ^ 1 + bits_of h 2 1 * 2 ^ 5) (omega arith) (omega arith))

pub branch_fits : (h : ℕ) → IsBelow 12 (branch_offset_of h) × IsEven (branch_offset_of h)
branch_fits h = (wider 8 12 (branch_offset_of h) (omega arith) (signed_below 8 (bits_of h 12 1 * 2 ^ 8 + bits_of h 10 2 * 2 ^ 3 + bits_of h 5 2 * 2 ^ 6 + bits_of h 3 2 * 2 ^ 1 + bits_of h 2 1 * 2 ^ 5) (omega arith)), signed_even 8 (bits_of h 12 1 * 2 ^ 8 + bits_of h 10 2 * 2 ^ 3 + bits_of h 5 2 * 2 ^ 6 + bits_of h 3 2 * 2 ^ 1 + bits_of h 2 1 * 2 ^ 5) (omega arith) (omega arith))

of_row : (P : Inst → Type 0) (b p : Bool) (x i : Inst) (z : Option Inst) → (b ≡ true → P x) → (z ≡ Some i → P i) → cond (b && p) (Some x) z ≡ Some i → P i
of_row P true true x i z h k e = let same : x ≡ i = cc in subst P same (h refl)
of_row P true false x i z h k e = k e
of_row P false p x i z h k e = k e

-- what each row makes of its words has it, so has what a word means
pub fit_has : (P : Inst → Type 0) (rs : List Row) (w : ℕ) (i : Inst) → EachOf P rs w → first_fit rs w ≡ Some i → P i
fit_has P [] w i a e = absurd (cc)
fit_has P (r ∷ rs) w i a e = of_row P _ (r.when w) (r.reads w) i (first_fit rs w) (λ (q : eqb (bit_and w r.mask) r.value ≡ true). a.0 (eqb-true _ _ q)) (fit_has P rs w i a.1) e

fields_u : (w : ℕ) → (rd_of w < 32) × IsUpper (imm_u_of w)
fields_u w = (omega arith, imm_u_fits w)

fields_j : (w : ℕ) → (rd_of w < 32) × (IsBelow 20 (imm_j_of w) × IsEven (imm_j_of w))
fields_j w = (omega arith, imm_j_fits w)

fields_i : (w : ℕ) → (rd_of w < 32) × ((rs1_of w < 32) × IsBelow 11 (imm_i_of w))
fields_i w = (omega arith, (omega arith, imm_i_fits w))

fields_b : (w : ℕ) → (rs1_of w < 32) × ((rs2_of w < 32) × (IsBelow 12 (imm_b_of w) × IsEven (imm_b_of w)))
fields_b w = (omega arith, (omega arith, imm_b_fits w))

fields_s : (w : ℕ) → (rs1_of w < 32) × ((rs2_of w < 32) × IsBelow 11 (imm_s_of w))
fields_s w = (omega arith, (omega arith, imm_s_fits w))

fields_s6 : (w : ℕ) → (rd_of w < 32) × ((rs1_of w < 32) × IsPlain 6 (shamt6_of w))
fields_s6 w = (omega arith, (omega arith, omega arith))

fields_s5 : (w : ℕ) → (rd_of w < 32) × ((rs1_of w < 32) × IsPlain 5 (shamt5_of w))
fields_s5 w = (omega arith, (omega arith, omega arith))

fields_r : (w : ℕ) → (rd_of w < 32) × ((rs1_of w < 32) × (rs2_of w < 32))
fields_r w = (omega arith, (omega arith, omega arith))

fields_v : (w : ℕ) → (rs1_of w < 32) × (rs2_of w < 32)
fields_v w = (omega arith, omega arith)

fields_c : (w : ℕ) → (rd_of w < 32) × ((rs1_of w < 32) × (csr_of w < 2 ^ 12))
fields_c w = (omega arith, (omega arith, omega arith))

fields_ci : (w : ℕ) → (rd_of w < 32) × (IsPlain 5 (uimm_of w) × (csr_of w < 2 ^ 12))
fields_ci w = (omega arith, (omega arith, omega arith))

fields_l : (w : ℕ) → (rd_of w < 32) × (rs1_of w < 32)
fields_l w = (omega arith, omega arith)

words_fit : (w : ℕ) → EachOf FieldsFit rows w
unfolding rows FieldsFit
words_fit w = ((λ _. fields_u w), ((λ _. fields_u w), ((λ _. fields_j w), ((λ _. fields_i w), ((λ _. fields_b w), ((λ _. fields_b w), ((λ _. fields_b w), ((λ _. fields_b w), ((λ _. fields_b w), ((λ _. fields_b w), ((λ _. fields_i w), ((λ _. fields_i w), ((λ _. fields_i w), ((λ _. fields_i w), ((λ _. fields_i w), ((λ _. fields_i w), ((λ _. fields_i w), ((λ _. fields_s w), ((λ _. fields_s w), ((λ _. fields_s w), ((λ _. fields_s w), ((λ _. fields_i w), ((λ _. fields_i w), ((λ _. fields_i w), ((λ _. fields_i w), ((λ _. fields_i w), ((λ _. fields_i w), ((λ _. fields_i w), ((λ _. fields_s6 w), ((λ _. fields_s6 w), ((λ _. fields_s6 w), ((λ _. fields_s5 w), ((λ _. fields_s5 w), ((λ _. fields_s5 w), ((λ _. fields_r w), ((λ _. fields_r w), ((λ _. fields_r w), ((λ _. fields_r w), ((λ _. fields_r w), ((λ _. fields_r w), ((λ _. fields_r w), ((λ _. fields_r w), ((λ _. fields_r w), ((λ _. fields_r w), ((λ _. fields_r w), ((λ _. fields_r w), ((λ _. fields_r w), ((λ _. fields_r w), ((λ _. fields_r w), ((λ _. fields_r w), ((λ _. fields_r w), ((λ _. fields_r w), ((λ _. fields_r w), ((λ _. fields_r w), ((λ _. fields_r w), ((λ _. fields_r w), ((λ _. fields_r w), ((λ _. fields_r w), ((λ _. fields_r w), ((λ _. fields_r w), ((λ _. fields_r w), ((λ _. fields_r w), ((λ _. tt), ((λ _. tt), ((λ _. tt), ((λ _. tt), ((λ _. tt), ((λ _. tt), ((λ _. fields_v w), ((λ _. fields_c w), ((λ _. fields_c w), ((λ _. fields_c w), ((λ _. fields_ci w), ((λ _. fields_ci w), ((λ _. fields_ci w), ((λ _. fields_l w), ((λ _. fields_r w), ((λ _. fields_r w), ((λ _. fields_r w), ((λ _. fields_r w), ((λ _. fields_r w), ((λ _. fields_r w), ((λ _. fields_r w), ((λ _. fields_r w), ((λ _. fields_r w), ((λ _. fields_r w), ((λ _. fields_l w), ((λ _. fields_r w), ((λ _. fields_r w), ((λ _. fields_r w), ((λ _. fields_r w), ((λ _. fields_r w), ((λ _. fields_r w), ((λ _. fields_r w), ((λ _. fields_r w), ((λ _. fields_r w), ((λ _. fields_r w), tt)))))))))))))))))))))))))))))))))))))))))))))))))))))))))))))))))))))))))))))))))))))))))))))))))

-- the fields of what a word means are in their ranges
pub decoded_fits : (w : ℕ) (i : Inst) → decode_of w ≡ Some i → FieldsFit i
unfolding decode_of
decoded_fits w i e = fit_has FieldsFit rows w i (words_fit w) e

halfwords_fit : (h : ℕ) → EachOf FieldsFit compressed_rows h
unfolding compressed_rows FieldsFit
halfwords_fit h = ((λ _. (omega arith, (omega arith, omega arith))), ((λ _. (omega arith, (omega arith, omega arith))), ((λ _. (omega arith, (omega arith, omega arith))), ((λ _. (omega arith, (omega arith, omega arith))), ((λ _. (omega arith, (omega arith, omega arith))), ((λ _. (omega arith, (omega arith, small_fits h))), ((λ _. (omega arith, (omega arith, small_fits h))), ((λ _. (omega arith, (omega arith, small_fits h))), ((λ _. (omega arith, (omega arith, frame_fits h))), ((λ _. (omega arith, upper_fits h)), ((λ _. (omega arith, (omega arith, omega arith))), ((λ _. (omega arith, (omega arith, omega arith))), ((λ _. (omega arith, (omega arith, small_fits h))), ((λ _. (omega arith, (omega arith, omega arith))), ((λ _. (omega arith, (omega arith, omega arith))), ((λ _. (omega arith, (omega arith, omega arith))), ((λ _. (omega arith, (omega arith, omega arith))), ((λ _. (omega arith, (omega arith, omega arith))), ((λ _. (omega arith, (omega arith, omega arith))), ((λ _. (omega arith, jump_fits h)), ((λ _. (omega arith, (omega arith, branch_fits h))), ((λ _. (omega arith, (omega arith, branch_fits h))), ((λ _. (omega arith, (omega arith, omega arith))), ((λ _. (omega arith, (omega arith, omega arith))), ((λ _. (omega arith, (omega arith, omega arith))), ((λ _. (omega arith, (omega arith, omega arith))), ((λ _. (omega arith, (omega arith, omega arith))), ((λ _. tt), ((λ _. (omega arith, (omega arith, omega arith))), ((λ _. (omega arith, (omega arith, omega arith))), ((λ _. (omega arith, (omega arith, omega arith))), ((λ _. (omega arith, (omega arith, omega arith))), tt))))))))))))))))))))))))))))))))

-- and of what a halfword means
pub decoded16_fits : (h : ℕ) (i : Inst) → decode16_of h ≡ Some i → FieldsFit i
unfolding decode16_of
decoded16_fits h i e = fit_has FieldsFit compressed_rows h i (halfwords_fit h) e
