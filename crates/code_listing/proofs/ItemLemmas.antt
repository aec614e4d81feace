-- The first item of some halfwords.
use Rattle.std.proofs.Common.{◌≡◌, ℕ, zero, suc, ◌+◌, ◌<◌, Bool, true, false, cond, List, [], ◌∷◌, length, drop, refl, subst, sym, arith, add-one}
use Rattle.std.specs.Prelude.{◌==◌, if◌then◌else◌, slice_index}
use Rattle.std.specs.List.{prefix_len}
use Rattle.lane_kernels.specs.Kernels.{is_open}
use Rattle.code_listing.specs.declared.items.Item.TheVariants.{Zeros, Wide, Short}
use Rattle.code_listing.specs.Items.{items_of, zero_before}

abbrev is_zero : ℕ → Bool
is_zero half = half == 0

-- halfwords that begin with no 0 begin with no run
before-other : (halves : List ℕ) → prefix_len (λ half. half == 0) halves ≡ 0 → zero_before (items_of halves) ≡ Zeros 1 ∷ items_of halves
before-other [] e = refl
before-other (a ∷ []) e =
    elim (a == 0) as (λ t. cond t (1 + prefix_len is_zero []) 0 ≡ 0
    → zero_before (if t then zero_before [] else Short a ∷ []) ≡ Zeros 1 ∷ (if t then zero_before [] else Short a ∷ [])) [
      | true ↦ λ e. absurd (omega (arith, e))
      | false ↦ λ e. refl
    ] e
before-other (a ∷ b ∷ rest) e =
    elim (a == 0) as (λ t. cond t (1 + prefix_len is_zero (b ∷ rest)) 0 ≡ 0
    → zero_before (if t then zero_before (items_of (b ∷ rest)) else (if is_open a then Wide a b ∷ items_of rest else Short a ∷ items_of (b ∷ rest)))
    ≡ Zeros 1 ∷ (if t then zero_before (items_of (b ∷ rest)) else (if is_open a then Wide a b ∷ items_of rest else Short a ∷ items_of (b ∷ rest)))) [
      | true ↦ λ e. absurd (omega (arith, e))
      | false ↦ λ e.
          elim (is_open a) as (λ t. zero_before (if t then Wide a b ∷ items_of rest else Short a ∷ items_of (b ∷ rest))
          ≡ Zeros 1 ∷ (if t then Wide a b ∷ items_of rest else Short a ∷ items_of (b ∷ rest))) [ true ↦ refl | false ↦ refl ]
    ] e

-- halfwords that begin with a run
pub zeros-first : (k : ℕ) (halves : List ℕ) → prefix_len (λ half. half == 0) halves ≡ suc k → items_of halves ≡ Zeros (suc k) ∷ items_of (drop (suc k) halves)
zeros-first k [] e = absurd (omega (arith, e))
zeros-first zero (a ∷ []) e =
    elim (a == 0) as (λ t. cond t (1 + prefix_len is_zero []) 0 ≡ 1 → (if t then zero_before [] else Short a ∷ []) ≡ Zeros 1 ∷ []) [
      | true ↦ λ e. refl
      | false ↦ λ e. absurd (omega (arith, e))
    ] e
zeros-first (suc k) (a ∷ []) e =
    elim (a == 0) as (λ t. cond t (1 + prefix_len is_zero []) 0 ≡ suc (suc k) → (if t then zero_before [] else Short a ∷ []) ≡ Zeros (suc (suc k)) ∷ items_of (drop (suc (suc k)) (a ∷ []))) [
      | true ↦ λ e. absurd (omega (arith, e))
      | false ↦ λ e. absurd (omega (arith, e))
    ] e
zeros-first zero (a ∷ b ∷ rest) e =
    elim (a == 0) as (λ t. cond t (1 + prefix_len is_zero (b ∷ rest)) 0 ≡ 1
    → (if t then zero_before (items_of (b ∷ rest)) else (if is_open a then Wide a b ∷ items_of rest else Short a ∷ items_of (b ∷ rest))) ≡ Zeros 1 ∷ items_of (b ∷ rest)) [
      | true ↦ λ e. before-other (b ∷ rest) (omega (arith, e))
      | false ↦ λ e. absurd (omega (arith, e))
    ] e
zeros-first (suc k) (a ∷ b ∷ rest) e =
    elim (a == 0) as (λ t. cond t (1 + prefix_len is_zero (b ∷ rest)) 0 ≡ suc (suc k)
    → (if t then zero_before (items_of (b ∷ rest)) else (if is_open a then Wide a b ∷ items_of rest else Short a ∷ items_of (b ∷ rest))) ≡ Zeros (suc (suc k)) ∷ items_of (drop (suc k) (b ∷ rest))) [
      | true ↦ λ e. rw (zeros-first k (b ∷ rest) (omega (arith, e)), add-one) refl
      | false ↦ λ e. absurd (omega (arith, e))
    ] e

pub zeros-here : (halves : List ℕ) (count : ℕ) → count ≡ prefix_len (λ half. half == 0) halves → 0 < count → items_of halves ≡ Zeros count ∷ items_of (drop count halves)
zeros-here halves zero is some = absurd (omega (arith, some))
zeros-here halves (suc k) is some = zeros-first k halves (sym is)

pub some-zeros : (halves : List ℕ) → 0 < length halves → slice_index halves 0 ≡ 0 → 0 < prefix_len (λ half. half == 0) halves
some-zeros [] some first = absurd (omega (arith, some))
some-zeros (x ∷ xs) some first =
    let base : 0 < 1 + prefix_len is_zero xs = omega arith in
    subst (λ y. 0 < cond (y == 0) (1 + prefix_len is_zero xs) 0) (sym first) base

-- halfwords that begin with an open one and go on
pub wide-first : (halves : List ℕ) → 1 < length halves → (slice_index halves 0 == 0) ≡ false → is_open (slice_index halves 0) ≡ true
    → items_of halves ≡ Wide (slice_index halves 0) (slice_index halves 1) ∷ items_of (drop 2 halves)
wide-first [] long other opened = absurd (omega (arith, long))
wide-first (a ∷ []) long other opened = absurd (omega (arith, long))
wide-first (a ∷ b ∷ rest) long other opened = rw (other, opened) refl

-- halfwords that begin with another
pub short-first : (halves : List ℕ) → 0 < length halves → (slice_index halves 0 == 0) ≡ false → (1 < length halves → is_open (slice_index halves 0) ≡ false)
    → items_of halves ≡ Short (slice_index halves 0) ∷ items_of (drop 1 halves)
short-first [] some other closed = absurd (omega (arith, some))
short-first (a ∷ []) some other closed = rw other refl
short-first (a ∷ b ∷ rest) some other closed =
    let short : is_open a ≡ false = closed (omega arith) in
    rw (other, short) refl
