-- When words are of the form of the command.
use Rattle.std.proofs.Common.{◌≡◌, ℕ, zero, suc, ◌<◌, List, [], ◌∷◌, length, arith, refl, sym, ap, map}
use Rattle.std.specs.Prelude.{get_or}

module _ {A : Type 0} (f : A → List ℕ) where
  -- the word of an item
  pub item-at : (xs : List A) (n : ℕ) (item : A) → n < length xs → item ≡ get_or xs n item → get_or (map f xs) n [] ≡ f item
  item-at [] n item within is = absurd (omega (arith, within))
  item-at (x ∷ xs) zero item within is = ap f (sym is)
  item-at (x ∷ xs) (suc n) item within is = item-at xs n item (omega (arith, within)) is

  -- the words of six items
  pub six-words : (xs : List A) (a : List ℕ) → length xs ≡ 6 → get_or (map f xs) 0 [] ≡ a
      → map f xs ≡ a ∷ get_or (map f xs) 1 [] ∷ get_or (map f xs) 2 [] ∷ get_or (map f xs) 3 [] ∷ get_or (map f xs) 4 [] ∷ get_or (map f xs) 5 [] ∷ []
  six-words [] a six = absurd (omega (arith, six))
  six-words (x0 ∷ []) a six = absurd (omega (arith, six))
  six-words (x0 ∷ x1 ∷ []) a six = absurd (omega (arith, six))
  six-words (x0 ∷ x1 ∷ x2 ∷ []) a six = absurd (omega (arith, six))
  six-words (x0 ∷ x1 ∷ x2 ∷ x3 ∷ []) a six = absurd (omega (arith, six))
  six-words (x0 ∷ x1 ∷ x2 ∷ x3 ∷ x4 ∷ []) a six = absurd (omega (arith, six))
  six-words (x0 ∷ x1 ∷ x2 ∷ x3 ∷ x4 ∷ x5 ∷ []) a six = λ is. rw is refl
  six-words (x0 ∷ x1 ∷ x2 ∷ x3 ∷ x4 ∷ x5 ∷ x6 ∷ xs) a six = absurd (omega (arith, six))
