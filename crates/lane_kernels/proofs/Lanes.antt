-- What the vector operations of the kernels come to, halfword by halfword.
use Rattle.std.proofs.Common.{◌≡◌, ◌≢◌, ℕ, zero, suc, ◌+◌, ◌-◌, ◌*◌, ◌≤◌, ◌<◌, ◌%◌, Bool, true, false, cond, List, [], ◌∷◌, ◌++◌, length, take, drop, map, eqb, get_or, refl, sym, ap, subst, ◌∙◌, arith, bit_and}
use Rattle.std.specs.Prelude.{◌==◌, count_by, if◌then◌else◌, replicate, nat_lt, nat_le, ◌&&◌}
use Rattle.std.proofs.lemmas.Nat.{and_mask}
use Rattle.std.proofs.lemmas.List.Sums.{sum_by-append}
use Rattle.std.proofs.Common.{take-add, length-drop}
use Rattle.std.specs.Prelude.{MatchBool}
use Rattle.std.proofs.lemmas.List.{take-append-drop, take_all}
use Rattle.std.proofs.lemmas.Grind.{common_steps}
use Rattle.std.proofs.lemmas.Bool.Decides.{nat_tests}
use lib.Lanes.{zip2, sel_l, chunk, put_chunk, mask_l}
use mathlib.Core.Bool.{not}
use Rattle.std.proofs.lemmas.Simd.{length-zip2, length-chunk, get_or-chunk, get_or-zip2, get_or-put_chunk_below, get_or-put_chunk_at, get_or-put_chunk_above}
use Rattle.lane_kernels.specs.Kernels.{kept_at, is_open}

-- a halfword under its mark
abbrev pub kept_half : ℕ → ℕ → ℕ
kept_half half mark = if mark == 0 then 0 else half

-- where the marks that are 0 choose 0
pub chosen : (n : ℕ) (xs ks : List ℕ) → length ks ≡ n → length xs ≡ n → sel_l (zip2 eqb ks (replicate n 0)) (replicate n 0) xs ≡ zip2 kept_half xs ks
chosen zero [] [] a b = refl
chosen zero (x ∷ xs) ks a b = absurd (omega (arith, b))
chosen zero [] (k ∷ ks) a b = absurd (omega (arith, a))
chosen (suc n) [] ks a b = absurd (omega (arith, b))
chosen (suc n) (x ∷ xs) [] a b = absurd (omega (arith, a))
chosen (suc n) (x ∷ xs) (k ∷ ks) a b = ap (λ l. kept_half x k ∷ l) (chosen n xs ks (omega (arith, a)) (omega (arith, b)))

-- a store of the kept lanes
pub stored : (src keep out : List ℕ) (at : ℕ) → at + 32 ≤ length src → at + 32 ≤ length keep → at + 32 ≤ length out → (n : ℕ)
    → get_or (put_chunk at out (zip2 kept_half (chunk at 32 src) (chunk at 32 keep))) n 0 ≡ (if nat_le at n && nat_lt n (at + 32) then kept_at src keep n else get_or out n 0)
stored src keep out at a b c n =
    let xs = chunk at 32 src in
    let ks = chunk at 32 keep in
    let long-xs : length (chunk at 32 src) ≡ 32 = length-chunk at 32 src a in
    let long-ks : length (chunk at 32 keep) ≡ 32 = length-chunk at 32 keep b in
    let long : length (zip2 kept_half (chunk at 32 src) (chunk at 32 keep)) ≡ 32 = length-zip2 kept_half xs ks (omega (arith, long-xs, long-ks)) ∙ long-xs in
    elim (nat_le at n) as (λ t. nat_le at n ≡ t → get_or (put_chunk at out (zip2 kept_half (chunk at 32 src) (chunk at 32 keep))) n 0 ≡ (if t && nat_lt n (at + 32) then kept_at src keep n else get_or out n 0)) [
      | true ↦ λ low. elim (nat_lt n (at + 32)) as (λ t. nat_lt n (at + 32) ≡ t → get_or (put_chunk at out (zip2 kept_half (chunk at 32 src) (chunk at 32 keep))) n 0 ≡ (if t then kept_at src keep n else get_or out n 0)) [
        | true ↦ λ high.
            let le : at ≤ n = grind (arith, nat_tests, low) in
            let lt : n < at + 32 = grind (arith, nat_tests, high) in
            let j : ℕ = n - at in
            let is : at + (n - at) ≡ n = omega (arith, le) in
            subst (λ z. get_or (put_chunk at out (zip2 kept_half (chunk at 32 src) (chunk at 32 keep))) z 0 ≡ kept_at src keep z) is
            (get_or-put_chunk_at at out (zip2 kept_half xs ks) j 0 (omega (arith, long, lt, le)) (omega (arith, long, c))
            ∙ get_or-zip2 kept_half xs ks j 0 0 0 (omega (arith, long-xs, lt, le)) (omega (arith, long-ks, lt, le))
            ∙ ap (λ x. kept_half x (get_or (chunk at 32 keep) (n - at) 0)) (get_or-chunk at 32 src j 0 (omega (arith, lt, le)))
            ∙ ap (λ k. kept_half (get_or src (at + (n - at)) 0) k) (get_or-chunk at 32 keep j 0 (omega (arith, lt, le))))
        | false ↦ λ high. get_or-put_chunk_above at out (zip2 kept_half xs ks) n 0 (grind (arith, nat_tests, high, long))
      ] refl
      | false ↦ λ low. get_or-put_chunk_below at out (zip2 kept_half xs ks) n 0 (grind (arith, nat_tests, low))
    ] refl

pub low_is : (xs : List ℕ) → map (λ x. bit_and x 3) xs ≡ map (λ x. x % 4) xs
low_is [] = refl
low_is (x ∷ xs) = ap (λ y. y ∷ map (λ x. bit_and x 3) xs) (and_mask x 2) ∙ ap (λ l. x % 4 ∷ l) (low_is xs)

pub count_low : (xs : List ℕ) → count_by (λ x. eqb x 3) (map (λ x. x % 4) xs) ≡ count_by is_open xs
count_low [] = refl
count_low (x ∷ xs) = grind (arith, common_steps, count_low xs)

pub length-low : (xs : List ℕ) → length (map (λ x. x % 4) xs) ≡ length xs
length-low [] = refl
length-low (x ∷ xs) = ap (λ n. suc n) (length-low xs)

-- the count of a part more
pub count_more : (xs : List ℕ) (at n : ℕ) → count_by is_open (take (at + n) xs) ≡ count_by is_open (take at xs) + count_by is_open (chunk at n xs)
count_more xs at n = ap (λ l. count_by is_open l) (take-add at n xs) ∙ sum_by-append (λ x. cond (is_open x) 1 0) (take at xs) (chunk at n xs)

-- no lane differs exactly where the lists are equal
pub none_differ : (xs ys : List ℕ) → length xs ≡ length ys → mask_l (zip2 (λ a b. not (eqb a b)) xs ys) ≡ 0 → xs ≡ ys
none_differ [] [] l e = refl
none_differ [] (y ∷ ys) l e = absurd (omega (arith, l))
none_differ (x ∷ xs) [] l e = absurd (omega (arith, l))
none_differ (x ∷ xs) (y ∷ ys) l e =
    elim (eqb x y) as (λ t. eqb x y ≡ t → cond (not t) 1 0 + 2 * mask_l (zip2 (λ a b. not (eqb a b)) xs ys) ≡ 0 → x ∷ xs ≡ y ∷ ys) [
      | true ↦ λ t z. let here : x ≡ y = grind (arith, nat_tests, t) in
          let rest : xs ≡ ys = none_differ xs ys (omega (arith, l)) (omega (arith, z)) in cc
      | false ↦ λ t z. absurd (omega (arith, z))
    ] refl e

pub equal_none : (xs : List ℕ) → mask_l (zip2 (λ a b. not (eqb a b)) xs xs) ≡ 0
equal_none [] = refl
equal_none (x ∷ xs) = let here : eqb x x ≡ true = grind (arith, nat_tests) in rw (here, equal_none xs) refl

-- lists that begin alike are equal exactly where what is left of them is
pub same_from : (n : ℕ) (r : Bool) (xs ys : List ℕ) → take n xs ≡ take n ys
    → MatchBool r (take (length xs - n) (drop n xs) ≡ take (length ys - n) (drop n ys)) (take (length xs - n) (drop n xs) ≢ take (length ys - n) (drop n ys))
    → MatchBool r (xs ≡ ys) (xs ≢ ys)
same_from n true xs ys front rest =
    let all_xs : take (length xs - n) (drop n xs) ≡ drop n xs = take_all (length xs - n) (drop n xs) (omega (arith, length-drop n xs)) in
    let all_ys : take (length ys - n) (drop n ys) ≡ drop n ys = take_all (length ys - n) (drop n ys) (omega (arith, length-drop n ys)) in
    sym (take-append-drop n xs) ∙ ap (λ l. l ++ drop n xs) front ∙ ap (λ l. take n ys ++ l) (sym all_xs ∙ rest ∙ all_ys) ∙ take-append-drop n ys
same_from n false xs ys front rest = λ e. rest (ap (λ l. take (length l - n) (drop n l)) e)
