-- A place of text is of the group of the function that holds it.
use Rattle.std.proofs.Common.{◌≡◌, ℕ, suc, ◌+◌, ◌-◌, ◌<◌, ◌≤◌, Bool, true, false, cond, leb, List, [], ◌∷◌, get_or, refl, ap, sym, ◌∙◌, subst, arith, count_by, filter}
use Rattle.std.proofs.lemmas.Bool.{le-leb, lt-leb, leb-true, leb-false}
use Rattle.std.proofs.lemmas.List.Sums.{sum_by-cons}
use Rattle.guest_input.specs.Accepted.{IsAscendingFrom, IsStarts}

-- how many are at or below an offset
abbrev below : ℕ → List ℕ → ℕ
below off [] = 0
below off (s ∷ ss) = cond (leb s off) 1 0 + below off ss

counted : (off : ℕ) (xs : List ℕ) → count_by (λ s. leb s off) xs ≡ below off xs
counted off [] = refl
counted off (s ∷ ss) = sum_by-cons (λ s. cond (leb s off) 1 0) s ss ∙ ap (λ n. cond (leb s off) 1 0 + n) (counted off ss)

-- each is at or below the one exactly where it is at or below the other
abbrev pub AreSame : ℕ → ℕ → List ℕ → Type 0
AreSame f off [] = Unit {0}
AreSame f off (s ∷ ss) = (leb s f ≡ leb s off) × AreSame f off ss

-- the last of starts that is at or below an offset
record IsLast (off low : ℕ) (xs : List ℕ) (f : ℕ) : Type 0 where
  below : f ≤ off
  same : AreSame f off (low ∷ xs)

record IsAbove (off : ℕ) (xs : List ℕ) : Type 0 where
  none : below off xs ≡ 0
  same : (f : ℕ) → f ≤ off → AreSame f off xs

none-below : (off x size : ℕ) (xs : List ℕ) → off < x → IsAscendingFrom x xs size → IsAbove off xs
none-below off x size [] above good = record { none = refl; same = λ f low. tt }
none-below off x size (y ∷ ys) above good =
    let rest = none-below off y size ys (omega (arith, above, good.0)) good.2 in
    let here : leb y off ≡ false = lt-leb y off (omega (arith, above, good.0)) in
    record {
      none = ap (λ b. cond b 1 0 + below off ys) here ∙ omega (arith, rest.none);
      same = λ f low. (lt-leb y f (omega (arith, above, good.0, low)) ∙ sym here, rest.same f low);
    }

last-below : (off low size : ℕ) (xs : List ℕ) → low ≤ off → IsAscendingFrom low xs size → IsLast off low xs (get_or (low ∷ xs) (below off xs) 0)
last-below off low size [] first good = record { below = first; same = (le-leb low low (omega arith) ∙ sym (le-leb low off first), tt) }
last-below off low size (x ∷ xs) first good =
    elim (leb x off) as (λ t. leb x off ≡ t → IsLast off low (x ∷ xs) (get_or (low ∷ x ∷ xs) (cond t 1 0 + below off xs) 0)) [
      | true ↦ λ is.
          let n = below off xs in
          let rest = last-below off x size xs (leb-true x off is) good.2 in
          let within : x ≤ get_or (x ∷ xs) n 0 = leb-true x (get_or (x ∷ xs) n 0) (rest.same.0 ∙ is) in
          let lowest : leb low (get_or (x ∷ xs) n 0) ≡ leb low off = le-leb low (get_or (x ∷ xs) n 0) (omega (arith, within, good.0)) ∙ sym (le-leb low off first) in
          let one : suc n ≡ 1 + n = omega arith in
          subst (IsLast off low (x ∷ xs)) (ap (λ k. get_or (low ∷ x ∷ xs) k 0) one) (record { below = rest.below; same = (lowest, rest.same) })
      | false ↦ λ is.
          let n = below off xs in
          let rest = none-below off x size xs (leb-false x off is) good.2 in
          let none : 0 ≡ 0 + n = omega (arith, rest.none) in
          let here : leb x low ≡ leb x off = lt-leb x low (omega (arith, good.0)) ∙ sym is in
          subst (IsLast off low (x ∷ xs)) (ap (λ k. get_or (low ∷ x ∷ xs) k 0) none)
          (record { below = first; same = (le-leb low low (omega arith) ∙ sym (le-leb low off first), (here, rest.same low first)) })
    ] refl

count-same : (q : ℕ → Bool) (f off : ℕ) (xs : List ℕ) → AreSame f off xs → below f (filter q xs) ≡ below off (filter q xs)
count-same q f off [] same = refl
count-same q f off (s ∷ ss) same =
    elim (q s) as (λ t. below f (cond t (s ∷ filter q ss) (filter q ss)) ≡ below off (cond t (s ∷ filter q ss) (filter q ss))) [
      | true ↦ ap (λ b. cond b 1 0 + below f (filter q ss)) same.0 ∙ ap (λ n. cond (leb s off) 1 0 + n) (count-same q f off ss same.1)
      | false ↦ count-same q f off ss same.1
    ]

below-same : (q : ℕ → Bool) (off size : ℕ) (functions : List ℕ) → IsStarts functions size
    → below (get_or functions (below off functions - 1) 0) (filter q functions) ≡ below off (filter q functions)
below-same q off size [] good = absurd good
below-same q off size (x ∷ xs) good =
    let n = below off xs in
    let low : x ≤ off = omega (arith, good.0) in
    let ascending : IsAscendingFrom x xs size = subst (λ l. IsAscendingFrom l xs size) (sym good.0) good.1 in
    let last = last-below off x size xs low ascending in
    let one : 1 + n - 1 ≡ n = omega arith in
    let first : cond (leb x off) 1 0 + n - 1 ≡ n = ap (λ b. cond b 1 0 + n - 1) (le-leb x off low) ∙ one in
    ap (λ k. below (get_or (x ∷ xs) k 0) (filter q (x ∷ xs))) first
    ∙ count-same q (get_or (x ∷ xs) n 0) off (x ∷ xs) last.same

-- as many of the starts that a test picks are at or below the last function as are at or below the offset
pub start-same : (q : ℕ → Bool) (off size : ℕ) (functions : List ℕ) → IsStarts functions size
    → count_by (λ s. leb s (get_or functions (count_by (λ s. leb s off) functions - 1) 0)) (filter q functions) ≡ count_by (λ s. leb s off) (filter q functions)
start-same q off size functions good =
    counted (get_or functions (count_by (λ s. leb s off) functions - 1) 0) (filter q functions)
    ∙ ap (λ n. below (get_or functions (n - 1) 0) (filter q functions)) (counted off functions)
    ∙ below-same q off size functions good
    ∙ sym (counted off (filter q functions))
