-- The words of short lists.
use Rattle.std.proofs.Common.{◌≡◌, ℕ, zero, suc, ◌<◌, List, [], ◌∷◌, length, arith, refl, ◌∙◌, sym, ap, map}
use Rattle.std.specs.Prelude.{get_or}

module _ {A : Type 0} (f : A → List ℕ) where
  -- the word of an item
  pub item-at : (xs : List A) (n : ℕ) (item : A) → n < length xs → item ≡ get_or xs n item → get_or (map f xs) n [] ≡ f item
  item-at [] n item within is = absurd (omega (arith, within))
  item-at (x ∷ xs) zero item within is = ap f (sym is)
  item-at (x ∷ xs) (suc n) item within is = item-at xs n item (omega (arith, within)) is

  pub three-words : (xs : List A) (a : List ℕ) → length xs ≡ 3 → get_or (map f xs) 0 [] ≡ a → map f xs ≡ a ∷ get_or (map f xs) 1 [] ∷ get_or (map f xs) 2 [] ∷ []
  three-words [] a three = absurd (omega (arith, three))
  three-words (x0 ∷ []) a three = absurd (omega (arith, three))
  three-words (x0 ∷ x1 ∷ []) a three = absurd (omega (arith, three))
  three-words (x0 ∷ x1 ∷ x2 ∷ []) a three = λ is. rw is refl
  three-words (x0 ∷ x1 ∷ x2 ∷ x3 ∷ xs) a three = absurd (omega (arith, three))

  pub four-words : (xs : List A) (a : List ℕ) → length xs ≡ 4 → get_or (map f xs) 0 [] ≡ a → map f xs ≡ a ∷ get_or (map f xs) 1 [] ∷ get_or (map f xs) 2 [] ∷ get_or (map f xs) 3 [] ∷ []
  four-words [] a four = absurd (omega (arith, four))
  four-words (x0 ∷ []) a four = absurd (omega (arith, four))
  four-words (x0 ∷ x1 ∷ []) a four = absurd (omega (arith, four))
  four-words (x0 ∷ x1 ∷ x2 ∷ []) a four = absurd (omega (arith, four))
  four-words (x0 ∷ x1 ∷ x2 ∷ x3 ∷ []) a four = λ is. rw is refl
  four-words (x0 ∷ x1 ∷ x2 ∷ x3 ∷ x4 ∷ xs) a four = absurd (omega (arith, four))
