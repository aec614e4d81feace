-- What a miss is, and the misses under a view as an ascending list of the steps that are such.
use Rattle.std.proofs.Common.{◌≡◌, ℕ, zero, suc, ◌<◌, true, false, Bool, List, [], ◌∷◌, ◌++◌, length, refl, sym, ap, subst, ◌∙◌, arith, Option, Some, None, ◌⊎◌, inl, inr, append-nil}
use Rattle.std.specs.Prelude.{◌==◌, ◌&&◌, ◌||◌, not, if◌then◌else◌}
use Rattle.std.proofs.lemmas.Bool.Decides.{nat_tests}
use Rattle.function_table.specs.Groups.{group_at}
use Rattle.run_evidence.specs.Config.{Config, image_groups, is_base, fetched_at, view_at}
use Rattle.run_evidence.specs.Misses.{is_of_group, is_fetch, was_fetched, is_miss_at, is_miss, misses_to, misses, misses_under}
use Rattle.run_evidence.proofs.Ascending.{Among, AreAscending, among-push, among-last, push-among, ascending-push, ascending-filter, among-filter, filter-among, filter-all}

-- tests
pub same-test : (x y : ℕ) → x ≡ y → (x == y) ≡ true
same-test x y e = grind (arith, nat_tests, e)

pub test-same : (x y : ℕ) → (x == y) ≡ true → x ≡ y
test-same x y t = grind (arith, nat_tests, t)

pub both : (a b : Bool) → (a && b) ≡ true → (a ≡ true) × (b ≡ true)
both true b e = (refl, e)
both false b e = absurd (cc)

pub pair-up : (a b : Bool) → a ≡ true → b ≡ true → (a && b) ≡ true
pair-up true b p q = q
pair-up false b p q = absurd (cc)

pub other : (a b : Bool) → a ≡ false → (a || b) ≡ true → b ≡ true
other true b p e = absurd (cc)
other false b p e = e

lt-or-eq : (t n : ℕ) → t < suc n → (t < n) ⊎ (t ≡ n)
lt-or-eq t n h = grind (arith, h)

-- the place that is fetched, where it is of a group
pub record IsPlaceOf (c : Config) (next : Option ℕ) (g : ℕ) : Type 0 where
  pub place : ℕ
  pub next_is : next ≡ Some place
  pub group : group_at (image_groups c) place ≡ g

pub place-of : (c : Config) (next : Option ℕ) (g : ℕ) → is_of_group c next g ≡ true → IsPlaceOf c next g
place-of c None g e = absurd (cc)
place-of c (Some p) g e = record { place = p; next_is = refl; group = test-same (group_at (image_groups c) p) g e }

pub of-place : (c : Config) (next : Option ℕ) (p g : ℕ) → next ≡ Some p → group_at (image_groups c) p ≡ g → is_of_group c next g ≡ true
of-place c next p g n e = subst (λ o. is_of_group c o g ≡ true) (sym n) (same-test (group_at (image_groups c) p) g e)

module _ (c : Config) (h : List ℕ) where
  -- one of the first t steps fetched group g under view v
  pub record IsEarlier (v g t : ℕ) : Type 0 where
    pub at : ℕ
    pub below : at < t
    pub fetch : is_fetch c h v g at ≡ true

  pub earlier : (v g t : ℕ) → was_fetched c h v g t ≡ true → IsEarlier v g t
  unfolding was_fetched
  earlier v g zero e = absurd (cc)
  earlier v g (suc t) e =
      elim (is_fetch c h v g t) as (λ b. is_fetch c h v g t ≡ b → (b || was_fetched c h v g t) ≡ true → IsEarlier v g (suc t)) [
        | true ↦ λ f z. record { at = t; below = omega arith; fetch = f }
        | false ↦ λ f z. let k : IsEarlier v g t = earlier v g t z in record { at = k.at; below = omega (arith, k.below); fetch = k.fetch }
      ] refl e

  pub fetched-earlier : (v g t at : ℕ) → at < t → is_fetch c h v g at ≡ true → was_fetched c h v g t ≡ true
  unfolding was_fetched
  fetched-earlier v g zero at l f = absurd (omega (arith, l))
  fetched-earlier v g (suc t) at l f =
      elim (is_fetch c h v g t) as (λ b. is_fetch c h v g t ≡ b → (b || was_fetched c h v g t) ≡ true) [
        | true ↦ λ k. refl
        | false ↦ λ k. elim (lt-or-eq at t l) [
          | inl less ↦ fetched-earlier v g t at less f
          | inr e ↦ (let no : true ≡ false = sym f ∙ ap (λ x. is_fetch c h v g x) e ∙ k in absurd (cc))
        ]
      ] refl

  -- a miss, in parts
  pub record IsMissing (t : ℕ) : Type 0 where
    pub place : ℕ
    pub next : fetched_at c h t ≡ Some place
    pub missing : is_base c (view_at c h t) (group_at (image_groups c) place) ≡ false
    pub fresh : was_fetched c h (view_at c h t) (group_at (image_groups c) place) t ≡ false

  not-true : (a : Bool) → not a ≡ true → a ≡ false
  not-true true e = absurd (cc)
  not-true false e = refl

  pub miss-parts : (t : ℕ) → is_miss c h t ≡ true → IsMissing t
  miss-parts t e =
      elim (fetched_at c h t) as (λ o. fetched_at c h t ≡ o → is_miss_at c h t o ≡ true → IsMissing t) [
        | None ↦ λ n z. absurd (cc)
        | Some p ↦ λ n z. record {
          place = p;
          next = n;
          missing = not-true _ (both _ _ z).0;
          fresh = not-true _ (both _ _ z).1;
        }
      ] refl e

  pub parts-miss : (t : ℕ) → IsMissing t → is_miss c h t ≡ true
  parts-miss t m = subst (λ o. is_miss_at c h t o ≡ true) (sym m.next) (pair-up _ _ (ap not m.missing) (ap not m.fresh))

  -- the misses among the first n steps
  among-if : (x y : ℕ) (xs : List ℕ) (b : Bool) → Among x xs → Among x (xs ++ (if b then y ∷ [] else []))
  among-if x y xs true m = among-push x y xs m
  among-if x y xs false m = rw append-nil m

  last-if : (x y : ℕ) (xs : List ℕ) (b : Bool) → x ≡ y → b ≡ true → Among x (xs ++ (if b then y ∷ [] else []))
  last-if x y xs true e t = subst (λ z. Among x (xs ++ z ∷ [])) e (among-last x xs)
  last-if x y xs false e t = absurd (cc)

  if-among : (x y : ℕ) (xs : List ℕ) (b : Bool) → Among x (xs ++ (if b then y ∷ [] else [])) → Among x xs ⊎ ((x ≡ y) × (b ≡ true))
  if-among x y xs true m = elim (push-among x y xs m) [ inl a ↦ inl a | inr e ↦ inr (e, refl) ]
  if-among x y xs false m = inl (rw append-nil at m)

  ascending-if : (y : ℕ) (xs : List ℕ) (b : Bool) → AreAscending xs → ((x : ℕ) → Among x xs → x < y) → AreAscending (xs ++ (if b then y ∷ [] else []))
  ascending-if y xs true a below = ascending-push y xs a below
  ascending-if y xs false a below = rw append-nil a

  miss-among : (n t : ℕ) → t < n → is_miss c h t ≡ true → Among t (misses_to c h n)
  unfolding misses_to
  miss-among zero t l m = absurd (omega (arith, l))
  miss-among (suc n) t l m = elim (lt-or-eq t n l) [
    | inl less ↦ among-if t n (misses_to c h n) (is_miss c h n) (miss-among n t less m)
    | inr e ↦ last-if t n (misses_to c h n) (is_miss c h n) e (subst (λ x. is_miss c h x ≡ true) e m)
  ]

  among-miss : (n t : ℕ) → Among t (misses_to c h n) → (t < n) × (is_miss c h t ≡ true)
  unfolding misses_to
  among-miss zero t m = absurd m
  among-miss (suc n) t m = elim (if-among t n (misses_to c h n) (is_miss c h n) m) [
    | inl a ↦ (let k : (t < n) × (is_miss c h t ≡ true) = among-miss n t a in (omega (arith, k.0), k.1))
    | inr e ↦ (omega (arith, e.0), subst (λ x. is_miss c h x ≡ true) (sym e.0) e.1)
  ]

  misses-ascend : (n : ℕ) → AreAscending (misses_to c h n)
  unfolding misses_to
  misses-ascend zero = tt
  misses-ascend (suc n) = ascending-if n (misses_to c h n) (is_miss c h n) (misses-ascend n) (λ x m. (among-miss n x m).0)

  pub under-ascends : (v : ℕ) → AreAscending (misses_under c h v)
  under-ascends v = ascending-filter (λ t. view_at c h t == v) (misses c h) (misses-ascend (length h))

  pub under-among : (v t : ℕ) → t < length h → is_miss c h t ≡ true → view_at c h t ≡ v → Among t (misses_under c h v)
  under-among v t l m e = among-filter (λ x. view_at c h x == v) t (misses c h) (miss-among (length h) t l m) (same-test (view_at c h t) v e)

  -- a miss under a view, in parts
  pub record IsUnder (v t : ℕ) : Type 0 where
    pub within : t < length h
    pub miss : is_miss c h t ≡ true
    pub view : view_at c h t ≡ v

  pub among-under : (v t : ℕ) → Among t (misses_under c h v) → IsUnder v t
  among-under v t m =
      let k : Among t (misses c h) × ((view_at c h t == v) ≡ true) = filter-among (λ x. view_at c h x == v) t (misses c h) m in
      record { within = (among-miss (length h) t k.0).0; miss = (among-miss (length h) t k.0).1; view = test-same (view_at c h t) v k.1 }

  -- where every step is under one view, its misses are all
  pub under-all : (v : ℕ) → ((t : ℕ) → t < length h → view_at c h t ≡ v) → misses_under c h v ≡ misses c h
  under-all v all = filter-all (λ t. view_at c h t == v) (misses c h) (λ t m. same-test (view_at c h t) v (all t (among-miss (length h) t m).0))
