-- What the halfword tried for an instruction is.
use Rattle.std.proofs.Common.{◌≡◌, ℕ, ◌<◌, ◌≤◌, ◌^◌, refl, sym, ap, arith, true, eqb-true}
use Rattle.std.specs.Prelude.{nat_le, ◌&&◌, Option, Some, None}
use Rattle.std.proofs.lemmas.Bool.Decides.{nat_tests}
use Rattle.rv_decode.specs.declared.Inst.{Inst}
use Rattle.rv_decode.specs.Rows.{decode16_of, decode_of}
use Rattle.rv_words.specs.Words.{encode_of}
use Rattle.rv_words.proofs.Words.{encode_of-decodes}
use Rattle.rv_words.specs.Candidates.{candidate_of}
use Rattle.rv_words.proofs.Table.{is_tried, same_word, word_of, and_left, and_right}
use Rattle.rv_words.proofs.Chunks.{all_tried}

-- instructions of one word are equal
pub one_word : (i j : Inst) (w : ℕ) → encode_of i ≡ Some w → encode_of j ≡ Some w → i ≡ j
one_word i j w e f =
    let a : decode_of w ≡ Some i = encode_of-decodes i w e in
    let b : decode_of w ≡ Some j = encode_of-decodes j w f in
    cc

-- where h means i
pub record Tried (i : Inst) (h : ℕ) : Type 0 where
  pub small : candidate_of i ≤ h
  pub same : decode16_of (candidate_of i) ≡ Some i
  pub word : ℕ
  pub has_word : encode_of i ≡ Some word

none_same : (o : Option ℕ) → same_word o None ≡ true → ⊥
none_same None h = cc
none_same (Some x) h = cc

same_both : (a b : Option ℕ) → same_word a b ≡ true → (w : ℕ) × (a ≡ Some w) × (b ≡ Some w)
same_both None b h = absurd (cc)
same_both (Some x) None h = absurd (cc)
same_both (Some x) (Some y) h = (x, refl, ap Some (sym (eqb-true x y h)))

same_means : (i : Inst) (o : Option Inst) → same_word (encode_of i) (word_of o) ≡ true → (w : ℕ) × ((encode_of i ≡ Some w) × (o ≡ Some i))
same_means i None h = absurd (none_same (encode_of i) h)
same_means i (Some j) h =
    let t = same_both (encode_of i) (encode_of j) h in
    (t.0, (t.1, ap Some (one_word j i t.0 t.2 t.1)))

pub tried : (i : Inst) (h : ℕ) → h < 2 ^ 16 → decode16_of h ≡ Some i → Tried i h
unfolding is_tried
tried i h l e =
    let t : is_tried h ≡ true = all_tried h l in
    let u = rw (e, is_tried) at t in
    let both : (nat_le (candidate_of i) h && same_word (encode_of i) (word_of (decode16_of (candidate_of i)))) ≡ true = u in
    let m = same_means i (decode16_of (candidate_of i)) (and_right _ _ both) in
    let le : nat_le (candidate_of i) h ≡ true = and_left _ _ both in
    record { small = grind (arith, nat_tests); same = m.1.1; word = m.0; has_word = m.1.0 }
