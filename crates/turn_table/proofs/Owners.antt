-- The numbers that passes own.
use Rattle.std.proofs.Common.{◌≡◌, ◌≢◌, ℕ, zero, suc, ◌+◌, ◌<◌, ◌≤◌, Bool, true, false, cond, Option, Some, None, List, [], ◌∷◌, ◌++◌, length, set, replicate, ◌⊎◌, inl, inr, sym, refl, ap, ◌∙◌, subst, arith, eq-eqb, ne_eqb, length-set}
use mathlib.Core.Logic.{dite}
use native.Mathlib.Decide.{ℕ_discrete}
use Rattle.turn_table.specs.Numbers.{Counts, at, weight, owns_some, least, greatest, grown, alone, counts_without, either_count, together, times, counts_from}

pub times-append : (i : ℕ) (xs ys : List ℕ) → times i (xs ++ ys) ≡ times i xs + times i ys
times-append i [] ys = omega arith
times-append i (x ∷ xs) ys = let h = times-append i xs ys in omega arith

pub times-same : (i n : ℕ) → times i (replicate n i) ≡ n
times-same i zero = refl
times-same i (suc n) = let h = times-same i n in rw (eq-eqb i i refl) (omega arith)

pub times-other : (i j n : ℕ) → i ≢ j → times i (replicate n j) ≡ 0
times-other i j zero d = refl
times-other i j (suc n) d = let h = times-other i j n d in rw (ne_eqb i j d) (omega arith)

pub none_some : {A : Type 0} (x : A) → None ≡ Some x → ⊥
none_some x e = cc

-- a number that is owned
pub at-least : (c : Counts) (i n : ℕ) → at c i ≡ Some n → (k : ℕ) × (at c (least c) ≡ Some k)
at-least [] i n e = absurd (none_some n e)
at-least (None ∷ c) zero n e = absurd (none_some n e)
at-least (None ∷ c) (suc i) n e = at-least c i n e
at-least (Some m ∷ c) i n e = (m, refl)

pub any_at : (c : Counts) → owns_some c ≡ true → (i : ℕ) × (n : ℕ) × (at c i ≡ Some n)
any_at [] e = absurd cc
any_at (None ∷ c) e = let t = any_at c e in (suc t.0, t.1, t.2)
any_at (Some m ∷ c) e = (0, m, refl)

greatest_by : (x : Option ℕ) (c : Counts) → owns_some (x ∷ c) ≡ true → (owns_some c ≡ true → (k : ℕ) × (at c (greatest c) ≡ Some k))
    → (b : Bool) → owns_some c ≡ b → (k : ℕ) × (at (x ∷ c) (cond b (suc (greatest c)) 0) ≡ Some k)
greatest_by x c e ih true is = ih is
greatest_by None c e ih false is = absurd (let h : true ≡ false = sym e ∙ is in cc)
greatest_by (Some m) c e ih false is = (m, refl)

pub at-greatest : (c : Counts) → owns_some c ≡ true → (k : ℕ) × (at c (greatest c) ≡ Some k)
at-greatest [] e = absurd cc
at-greatest (x ∷ c) e = greatest_by x c e (at-greatest c) (owns_some c) refl

pub any-at : (c : Counts) (i n : ℕ) → at c i ≡ Some n → owns_some c ≡ true
any-at [] i n e = absurd (none_some n e)
any-at (None ∷ c) zero n e = absurd (none_some n e)
any-at (None ∷ c) (suc i) n e = any-at c i n e
any-at (Some m ∷ c) i n e = refl

pub at-within : (c : Counts) (i n : ℕ) → at c i ≡ Some n → i < length c
at-within [] i n e = absurd (none_some n e)
at-within (x ∷ c) zero n e = omega arith
at-within (x ∷ c) (suc i) n e = let h = at-within c i n e in omega arith

pub at_set_here : (c : Counts) (i : ℕ) (x : Option ℕ) → i < length c → at (set c i x) i ≡ x
at_set_here [] i x h = absurd (omega arith)
at_set_here (y ∷ c) zero x h = refl
at_set_here (y ∷ c) (suc i) x h = at_set_here c i x (omega arith)

pub at_set_else : (c : Counts) (i j : ℕ) (x : Option ℕ) → j ≢ i → at (set c i x) j ≡ at c j
at_set_else [] i j x d = refl
at_set_else (y ∷ c) zero zero x d = absurd (d refl)
at_set_else (y ∷ c) zero (suc j) x d = refl
at_set_else (y ∷ c) (suc i) zero x d = refl
at_set_else (y ∷ c) (suc i) (suc j) x d = at_set_else c i j x (λ e. d (ap suc e))

pub at_nones : (n i : ℕ) → at (replicate n None) i ≡ None
at_nones zero i = refl
at_nones (suc n) zero = refl
at_nones (suc n) (suc i) = at_nones n i

nones_long : (n : ℕ) → length (replicate {A = Option ℕ} n None) ≡ n
nones_long zero = refl
nones_long (suc n) = ap suc (nones_long n)

pub alone_long : (c : Counts) (i : ℕ) → length (alone c i) ≡ length c
alone_long c i = length-set (replicate (length c) None) i (at c i) ∙ nones_long (length c)

pub alone_here : (c : Counts) (i : ℕ) → i < length c → at (alone c i) i ≡ at c i
alone_here c i h = at_set_here (replicate (length c) None) i (at c i) (let e = nones_long (length c) in omega arith)

pub alone_else : (c : Counts) (i j : ℕ) → j ≢ i → at (alone c i) j ≡ None
alone_else c i j d = at_set_else (replicate (length c) None) i j (at c i) d ∙ at_nones (length c) j

pub apart_weight : (c : Counts) (g i : ℕ) → g < length c → weight (at (counts_without c g) i) + weight (at (alone c g) i) ≡ weight (at c i)
apart_weight c g i h = dite (ℕ_discrete i g)
    (λ e. subst (λ (z : ℕ). weight (at (counts_without c g) z) + weight (at (alone c g) z) ≡ weight (at c z)) (sym e)
    (let a : weight (at (counts_without c g) g) ≡ 0 = ap weight (at_set_here c g None h) in let b : weight (at (alone c g) g) ≡ weight (at c g) = ap weight (alone_here c g h) in omega arith))
    (λ d. let a : weight (at (counts_without c g) i) ≡ weight (at c i) = ap weight (at_set_else c g i None d) in let b : weight (at (alone c g) i) ≡ 0 = ap weight (alone_else c g i d) in omega arith)

pub without_at : (c : Counts) (g i n : ℕ) → g < length c → at (counts_without c g) i ≡ Some n → at c i ≡ Some n
without_at c g i n h e = dite (ℕ_discrete i g)
    (λ q. absurd (none_some n (sym (at_set_here c g None h) ∙ subst (λ (z : ℕ). at (counts_without c g) z ≡ Some n) q e)))
    (λ d. sym (at_set_else c g i None d) ∙ e)

pub alone_at : (c : Counts) (g i n : ℕ) → g < length c → at (alone c g) i ≡ Some n → at c i ≡ Some n
alone_at c g i n h e = dite (ℕ_discrete i g)
    (λ q. subst (λ (z : ℕ). at c z ≡ Some n) (sym q) (sym (alone_here c g h) ∙ subst (λ (z : ℕ). at (alone c g) z ≡ Some n) q e))
    (λ d. absurd (none_some n (sym (alone_else c g i d) ∙ e)))

pub together_long : (c d : Counts) → length c ≡ length d → length (together c d) ≡ length c
together_long [] d e = refl
together_long (x ∷ c) [] e = refl
together_long (x ∷ c) (y ∷ d) e = ap suc (together_long c d (omega arith))

pub together_at : (c d : Counts) (i : ℕ) → length c ≡ length d → at (together c d) i ≡ either_count (at c i) (at d i)
together_at [] [] i e = refl
together_at [] (y ∷ d) i e = absurd (omega arith)
together_at (x ∷ c) [] i e = absurd (omega arith)
together_at (x ∷ c) (y ∷ d) zero e = refl
together_at (x ∷ c) (y ∷ d) (suc i) e = together_at c d i (omega arith)

pub either_weight : (x y : Option ℕ) → weight x + weight y ≤ 1 → weight (either_count x y) ≡ weight x + weight y
either_weight None y h = omega arith
either_weight (Some n) None h = refl
either_weight (Some n) (Some m) h = absurd (omega arith)

pub either_from : (x y : Option ℕ) (n : ℕ) → either_count x y ≡ Some n → (x ≡ Some n) ⊎ (y ≡ Some n)
either_from None y n e = inr e
either_from (Some m) y n e = inl e

pub weight_one : (x : Option ℕ) (n : ℕ) → x ≡ Some n → weight x ≡ 1
weight_one x n e = ap weight e

pub grown_weight : (x : Option ℕ) (n : ℕ) → weight (grown x n) ≡ weight x
grown_weight None n = refl
grown_weight (Some k) n = refl

pub counts_long : (i n : ℕ) (h : List ℕ) → length (counts_from i n h) ≡ n
counts_long i zero h = refl
counts_long i (suc n) h = ap suc (counts_long (suc i) n h)

pub counts_at : (i n k : ℕ) (h : List ℕ) → k < n → at (counts_from i n h) k ≡ Some (times (i + k) h)
counts_at i zero k h lt = absurd (omega arith)
counts_at i (suc n) zero h lt = let e : i ≡ i + 0 = omega arith in ap (λ (z : ℕ). Some (times z h)) e
counts_at i (suc n) (suc k) h lt = let e : suc i + k ≡ i + suc k = omega arith in counts_at (suc i) n k h (omega arith) ∙ ap (λ (z : ℕ). Some (times z h)) e

abbrev pub number_in : Option ℕ → ℕ
number_in None = 0
number_in (Some n) = n
