-- The numbers that digits write.
use Rattle.std.proofs.Common.{◌≡◌, ℕ, zero, suc, ◌+◌, ◌*◌, ◌^◌, ◌<◌, ◌≤◌, Bool, true, false, cond, List, [], ◌∷◌, length, Option, Some, None, refl, ap, sym, ◌∙◌, subst, arith, get_or, drop, add-one}
use Rattle.std.proofs.lemmas.Bool.{lt-ltb, le-ltb}
use Rattle.std.proofs.lemmas.List.{at_drop_more, at_drop_all}
use Rattle.std.specs.Prelude.{◌==◌, if◌then◌else◌, nat_lt, IfSome}
use Rattle.std.proofs.Math.Nat.{pow-suc, mul-le-mul_left, pow-le-pow_right}
use Rattle.listing_reader.specs.Lines.{digit_value, number_behind, number_in}

-- the number goes on with one more digit, and stops at a byte that is none
pub number-more : (base n i : ℕ) (ds : List ℕ) → i < length ds → digit_value (get_or ds i 0) < base
    → number_behind base n (drop i ds) ≡ number_behind base (n * base + digit_value (get_or ds i 0)) (drop (i + 1) ds)
number-more base n i ds within digit =
    let test = lt-ltb (digit_value (get_or ds i 0)) base digit in
    at_drop_more (number_behind base n) ds i 0 within ∙ rw test refl

pub number-stops : (base n i : ℕ) (ds : List ℕ) → i < length ds → base ≤ digit_value (get_or ds i 0) → number_behind base n (drop i ds) ≡ None
number-stops base n i ds within other =
    let test = le-ltb (digit_value (get_or ds i 0)) base other in
    at_drop_more (number_behind base n) ds i 0 within ∙ rw test refl

pub number-ends : (base n i : ℕ) (ds : List ℕ) → length ds ≤ i → number_behind base n (drop i ds) ≡ Some n
number-ends base n i ds beyond = at_drop_all (number_behind base n) ds i beyond

-- one more digit of a base up to 16
pub below-more : (base n i digit : ℕ) → base ≤ 16 → n < 16 ^ i → digit < base → n * base + digit < 16 ^ (i + 1)
below-more base n i digit small below d =
    let power : 16 ^ suc i ≡ 16 ^ i * 16 = pow-suc 16 i in
    let times : n * base ≤ n * 16 = mul-le-mul_left n small in
    rw add-one (rw power (omega (arith, times, below, d, small)))

pub below-all : (n a b : ℕ) → n < a → a ≤ b → n < b
below-all n a b below most = omega (arith, below, most)

-- 16 digits make 64 bits
pub digits-fit : (base n i digit : ℕ) → base ≤ 16 → n < 16 ^ i → i < 16 → digit < base → n * base + digit < 2 ^ 64
digits-fit base n i digit small below few d =
    let more = below-more base n i digit small below d in
    let most : 16 ^ (i + 1) ≤ 16 ^ 16 = pow-le-pow_right {n = 16} (omega arith) {i = i + 1} {j = 16} (omega arith) in
    below-all (n * base + digit) (16 ^ (i + 1)) (16 ^ 16) more most
