-- The words of some items.
use Rattle.std.proofs.Common.{◌≡◌, ℕ, zero, suc, ◌<◌, List, [], ◌∷◌, length, arith, refl, sym, ap, map}
use Rattle.std.specs.Prelude.{get_or, not, true, false}
use Rattle.std.specs.Str.{bytes_eq}
use Rattle.std.proofs.lemmas.Slice.Eq.{bytes_eq-Decides}

-- two texts that a test does not tell apart
pub text-same : (xs ys : List ℕ) → false ≡ not (bytes_eq xs ys) → xs ≡ ys
text-same xs ys e =
    let same : bytes_eq xs ys ≡ true = elim (bytes_eq xs ys) as (λ b. false ≡ not b → b ≡ true) [ true ↦ λ h. refl | false ↦ λ h. h ] e in
    (bytes_eq-Decides xs ys).0 same

module _ {A : Type 0} (f : A → List ℕ) where
  -- the word of an item
  pub item-at : (xs : List A) (n : ℕ) (item : A) → n < length xs → item ≡ get_or xs n item → get_or (map f xs) n [] ≡ f item
  item-at [] n item within is = absurd (omega (arith, within))
  item-at (x ∷ xs) zero item within is = ap f (sym is)
  item-at (x ∷ xs) (suc n) item within is = item-at xs n item (omega (arith, within)) is

  -- the words of three items
  pub three-words : (xs : List A) (a : List ℕ) → length xs ≡ 3 → get_or (map f xs) 0 [] ≡ a
      → map f xs ≡ a ∷ get_or (map f xs) 1 [] ∷ get_or (map f xs) 2 [] ∷ []
  three-words [] a three = absurd (omega (arith, three))
  three-words (x0 ∷ []) a three = absurd (omega (arith, three))
  three-words (x0 ∷ x1 ∷ []) a three = absurd (omega (arith, three))
  three-words (x0 ∷ x1 ∷ x2 ∷ []) a three = λ is. rw is refl
  three-words (x0 ∷ x1 ∷ x2 ∷ x3 ∷ xs) a three = absurd (omega (arith, three))

  -- the words of four items
  pub four-words : (xs : List A) (a d : List ℕ) → length xs ≡ 4 → get_or (map f xs) 0 [] ≡ a → get_or (map f xs) 3 [] ≡ d
      → map f xs ≡ a ∷ get_or (map f xs) 1 [] ∷ get_or (map f xs) 2 [] ∷ d ∷ []
  four-words [] a d four = absurd (omega (arith, four))
  four-words (x0 ∷ []) a d four = absurd (omega (arith, four))
  four-words (x0 ∷ x1 ∷ []) a d four = absurd (omega (arith, four))
  four-words (x0 ∷ x1 ∷ x2 ∷ []) a d four = absurd (omega (arith, four))
  four-words (x0 ∷ x1 ∷ x2 ∷ x3 ∷ []) a d four = λ ia id. rw (ia, id) refl
  four-words (x0 ∷ x1 ∷ x2 ∷ x3 ∷ x4 ∷ xs) a d four = absurd (omega (arith, four))
