-- Names of values, and states without a difference.
use Rattle.std.proofs.Common.{◌≡◌, ℕ, zero, suc, ◌+◌, ◌<◌, ◌≤◌, ◌↔◌, eqb, ltb, true, false, Bool, cond, not, List, [], ◌∷◌, length, map, Option, Some, None, refl, sym, ap, ◌∙◌, arith}
use Rattle.std.specs.Prelude.{IsNone, slice_get, slice_index_or, zip}
use Rattle.std.specs.List.{position_or_len}
use Rattle.std.proofs.lemmas.Bool.{eqb-true, eq-eqb, ltb-false, le-ltb}
use Rattle.trace_file.specs.declared.state.State.{State}
use Rattle.trace_file.specs.Values.{values_of, state_of, first_unequal}
use Rattle.trace_file.proofs.StateLaws.{state-values, len_values}

-- what stands at a place, seen by f
pub seen_at : {A B : Type 0} (f : A → B) (xs : List A) (k : ℕ) (d : A) → k < length xs → Some (f (slice_index_or xs k d)) ≡ slice_get (map f xs) k
seen_at f [] k d lt = absurd (omega arith)
seen_at f (x ∷ xs) zero d lt = refl
seen_at f (x ∷ xs) (suc k) d lt = seen_at f xs k d (omega arith)

abbrev differs : ℕ × ℕ → Bool
differs pair = not (eqb pair.0 pair.1)

after : (b : Bool) (n m : ℕ) → suc m ≤ cond (not (not b)) (1 + n) 0 → (b ≡ true) × (m ≤ n)
after true n m h = (refl, omega arith)
after false n m h = absurd (omega arith)

all_equal : (xs ys : List ℕ) → length xs ≡ length ys → length (zip xs ys) ≤ position_or_len differs (zip xs ys) → xs ≡ ys
all_equal [] [] e h = refl
all_equal [] (y ∷ ys) e h = absurd (omega arith)
all_equal (x ∷ xs) [] e h = absurd (omega arith)
all_equal (x ∷ xs) (y ∷ ys) e h =
    let next = after (eqb x y) (position_or_len differs (zip xs ys)) (length (zip xs ys)) h in
    ap (λ z. z ∷ xs) (eqb-true x y next.0) ∙ ap (λ zs. y ∷ zs) (all_equal xs ys (omega arith) next.1)

equal_all : (xs : List ℕ) → length (zip xs xs) ≤ position_or_len differs (zip xs xs)
equal_all [] = omega arith
equal_all (x ∷ xs) = rw (eq-eqb x x refl) (omega (arith, equal_all xs))

none_past : (n m : ℕ) → IsNone (cond (ltb n m) (Some n) None) → m ≤ n
none_past n m h = by (ltb n m) refl h
  where
    by : (b : Bool) → ltb n m ≡ b → IsNone (cond b (Some n) None) → m ≤ n
    by true e h = absurd cc
    by false e h = ltb-false n m e

-- two states without a first difference are the same
pub none_is_same : (a b : State) → IsNone (first_unequal (values_of a) (values_of b)) ↔ (a ≡ b)
none_is_same a b = (
  λ none.
      let long = none_past (position_or_len differs (zip (values_of a) (values_of b))) (length (zip (values_of a) (values_of b))) none in
      sym (state-values a) ∙ ap state_of (all_equal (values_of a) (values_of b) (len_values a ∙ sym (len_values b)) long) ∙ state-values b,
  λ same. rw (← same, le-ltb (position_or_len differs (zip (values_of a) (values_of a))) (length (zip (values_of a) (values_of a))) (equal_all (values_of a))) refl,
)

pub none_is_same_at : (a b : State) (found : Option ℕ) → found ≡ first_unequal (values_of a) (values_of b) → IsNone found ↔ (a ≡ b)
none_is_same_at a b found e = rw e (none_is_same a b)
