-- Facts of each halfword, found by computing.
use Rattle.std.proofs.Common.{◌≡◌, ℕ, zero, suc, ◌+◌, ◌<◌, ◌≤◌, refl, arith, Bool, true, false, inl, inr, sym, subst}
use Rattle.std.specs.Prelude.{nat_eq, nat_le, ◌&&◌, Option, Some, None}
use Rattle.std.proofs.lemmas.Bool.Decides.{eqb_tells}
use Rattle.rv_decode.specs.declared.Inst.{Inst}
use Rattle.rv_decode.specs.Rows.{decode16_of}
use Rattle.rv_words.specs.Words.{encode_of}
use Rattle.rv_words.specs.Candidates.{candidate_of}

-- p holds at each of n numbers from k on
abbrev pub holds_from : (ℕ → Bool) → ℕ → ℕ → Bool
holds_from p k zero = true
holds_from p k (suc n) = p k && holds_from p (k + 1) n

pub and_left : (a b : Bool) → (a && b) ≡ true → a ≡ true
and_left true b h = refl
and_left false b h = h

pub and_right : (a b : Bool) → (a && b) ≡ true → b ≡ true
and_right true b h = h
and_right false b h = absurd (cc)

pub holds_at : (p : ℕ → Bool) (k n h : ℕ) → holds_from p k n ≡ true → k ≤ h → h < k + n → p h ≡ true
holds_at p k zero h e low high = absurd (omega arith)
holds_at p k (suc n) h e low high =
    let here : p k ≡ true = and_left _ _ e in
    let rest : holds_from p (k + 1) n ≡ true = and_right _ _ e in
    elim (eqb_tells h k) [
      | inl q ↦ subst (λ (y : ℕ). p y ≡ true) (sym q.1) here
      | inr l ↦ holds_at p (k + 1) n h rest (omega arith) (omega arith)
    ]

-- the same word, and there is one
abbrev pub same_word : Option ℕ → Option ℕ → Bool
same_word None o = false
same_word (Some x) None = false
same_word (Some x) (Some y) = nat_eq x y

abbrev pub word_of : Option Inst → Option ℕ
word_of None = None
word_of (Some i) = encode_of i

-- the halfword tried for what h means means the same, and is at most h
unfoldable pub is_tried : ℕ → Bool
is_tried h = elim (decode16_of h) [ None ↦ true | Some i ↦ nat_le (candidate_of i) h && same_word (encode_of i) (word_of (decode16_of (candidate_of i))) ]
