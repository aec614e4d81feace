-- Texts, and the words of two items.
use Rattle.std.proofs.Common.{◌≡◌, ℕ, zero, suc, ◌<◌, List, [], ◌∷◌, length, arith, refl, sym, ap, map}
use Rattle.std.specs.Prelude.{get_or, not, true, false}
use Rattle.std.specs.Str.{bytes_eq}
use Rattle.std.proofs.lemmas.Slice.Eq.{bytes_eq-Decides}

-- two texts that a test does not tell apart
pub text-same : (xs ys : List ℕ) → false ≡ not (bytes_eq xs ys) → xs ≡ ys
text-same xs ys e =
    let same : bytes_eq xs ys ≡ true = elim (bytes_eq xs ys) as (λ b. false ≡ not b → b ≡ true) [ true ↦ λ h. refl | false ↦ λ h. h ] e in
    (bytes_eq-Decides xs ys).0 same

module _ {A : Type 0} (f : A → List ℕ) where
  -- the word of an item
  pub item-at : (xs : List A) (n : ℕ) (item : A) → n < length xs → item ≡ get_or xs n item → get_or (map f xs) n [] ≡ f item
  item-at [] n item within is = absurd (omega (arith, within))
  item-at (x ∷ xs) zero item within is = ap f (sym is)
  item-at (x ∷ xs) (suc n) item within is = item-at xs n item (omega (arith, within)) is

  pub two-words : (xs : List A) (a b : List ℕ) → length xs ≡ 2 → get_or (map f xs) 0 [] ≡ a → get_or (map f xs) 1 [] ≡ b → map f xs ≡ a ∷ b ∷ []
  two-words [] a b two = absurd (omega (arith, two))
  two-words (x0 ∷ []) a b two = absurd (omega (arith, two))
  two-words (x0 ∷ x1 ∷ []) a b two = λ ia ib. rw (ia, ib) refl
  two-words (x0 ∷ x1 ∷ x2 ∷ xs) a b two = absurd (omega (arith, two))
