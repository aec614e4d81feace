-- The first value that differs, among the values of two states.
use Rattle.std.proofs.Common.{◌≡◌, ℕ, suc, ◌+◌, Bool, true, false, cond, not, List, [], ◌∷◌, Option, Some, None, map, arith, refl, ◌∙◌, sym, ap}
use Rattle.std.specs.Prelude.{◌==◌, slice_index, zip}
use Rattle.std.specs.List.{enumerate_from, position_from}
use Rattle.std.proofs.lemmas.Iterator.Adapters.{position_from-zero}
use Rattle.trace_file.specs.Values.{first_unequal}
use Rattle.replay_command.specs.declared.comparison.Comparison.{Comparison}
use Rattle.replay_command.specs.declared.comparison.Comparison.TheVariants.{Value}
use Rattle.replay_command.specs.Comparisons.{first_difference, value_compared}

abbrev unequal : ℕ × ℕ → Bool
unequal pair = not (pair.0 == pair.1)

module _ (vcpu : ℕ) where
  -- the first difference among values that are numbered from n on
  abbrev pub listed : ℕ → List ℕ → List ℕ → Option Comparison
  listed n xs ys = first_difference (map (value_compared vcpu) (enumerate_from n (zip xs ys)))

  record IsFound (n k : ℕ) (xs ys : List ℕ) : Type 0 where
    pub at : ℕ
    pub is : k ≡ n + at
    pub found : listed n xs ys ≡ Some (Value vcpu k (slice_index xs at) (slice_index ys at))

  found-from : (n k : ℕ) (xs ys : List ℕ) → position_from unequal n (zip xs ys) ≡ Some k → IsFound n k xs ys
  found-from n k [] ys e = absurd (cc)
  found-from n k (x ∷ xs) [] e = absurd (cc)
  found-from n k (x ∷ xs) (y ∷ ys) e = by (x == y) refl (found-from (n + 1) k xs ys) e
    where
      by : (b : Bool) → (x == y) ≡ b → (position_from unequal (n + 1) (zip xs ys) ≡ Some k → IsFound (n + 1) k xs ys)
          → cond (not b) (Some n) (position_from unequal (n + 1) (zip xs ys)) ≡ Some k → IsFound n k (x ∷ xs) (y ∷ ys)
      by true same later h = let r = later h in let is = r.is in record { at = suc r.at; is = omega (arith, is); found = rw same r.found }
      by false same later h = let here : n ≡ k = cc in record { at = 0; is = omega (arith, here); found = rw same (ap (λ m. Some (Value vcpu m x y)) here) }

  none-from : (n : ℕ) (xs ys : List ℕ) → position_from unequal n (zip xs ys) ≡ None → listed n xs ys ≡ None
  none-from n [] ys e = refl
  none-from n (x ∷ xs) [] e = refl
  none-from n (x ∷ xs) (y ∷ ys) e = by (x == y) refl (none-from (n + 1) xs ys) e
    where
      by : (b : Bool) → (x == y) ≡ b → (position_from unequal (n + 1) (zip xs ys) ≡ None → listed (n + 1) xs ys ≡ None)
          → cond (not b) (Some n) (position_from unequal (n + 1) (zip xs ys)) ≡ None → listed n (x ∷ xs) (y ∷ ys) ≡ None
      by true same later h = rw same (later h)
      by false same later h = absurd (cc)

  pub value-found : (k : ℕ) (xs ys : List ℕ) → Some k ≡ first_unequal xs ys → Some (Value vcpu k (slice_index xs k) (slice_index ys k)) ≡ listed 0 xs ys
  value-found k xs ys e =
      let r : IsFound 0 k xs ys = found-from 0 k xs ys (sym (position_from-zero unequal (zip xs ys)) ∙ sym e) in
      let is = r.is in let here : r.at ≡ k = omega (arith, is) in
      ap (λ m. Some (Value vcpu k (slice_index xs m) (slice_index ys m))) (sym here) ∙ sym r.found

  pub value-none : (xs ys : List ℕ) → None ≡ first_unequal xs ys → None ≡ listed 0 xs ys
  value-none xs ys e = sym (none-from 0 xs ys (sym (position_from-zero unequal (zip xs ys)) ∙ sym e))
