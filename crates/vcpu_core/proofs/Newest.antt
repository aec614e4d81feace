-- The newest window goes in front, and of four the oldest goes.
use Rattle.std.proofs.Common.{◌≡◌, ◌-◌, ◌<◌, List, [], ◌∷◌, ◌++◌, take, drop, length, refl, arith}
use Rattle.std.specs.Prelude.{slice_set}

pub newest_of_four : {X : Type 0} (xs : List X) (x : X) → length xs ≡ 4 → slice_set (drop (length xs - 1) xs ++ take (length xs - 1) xs) 0 x ≡ x ∷ take 3 xs
newest_of_four (a ∷ b ∷ c ∷ d ∷ []) x e = refl
newest_of_four [] x e = absurd (omega (arith, e))
newest_of_four (a ∷ []) x e = absurd (omega (arith, e))
newest_of_four (a ∷ b ∷ []) x e = absurd (omega (arith, e))
newest_of_four (a ∷ b ∷ c ∷ []) x e = absurd (omega (arith, e))
newest_of_four (a ∷ b ∷ c ∷ d ∷ e₁ ∷ xs) x e = absurd (omega (arith, e))

pub newest_of_few : {X : Type 0} (xs : List X) (blank x : X) → length xs < 4 → slice_set (drop (length (xs ++ blank ∷ []) - 1) (xs ++ blank ∷ []) ++ take (length (xs ++ blank ∷ []) - 1) (xs ++ blank ∷ [])) 0 x ≡ x ∷ take 3 xs
newest_of_few [] blank x e = refl
newest_of_few (a ∷ []) blank x e = refl
newest_of_few (a ∷ b ∷ []) blank x e = refl
newest_of_few (a ∷ b ∷ c ∷ []) blank x e = refl
newest_of_few (a ∷ b ∷ c ∷ d ∷ xs) blank x e = absurd (omega (arith, e))
