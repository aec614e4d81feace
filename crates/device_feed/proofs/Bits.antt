-- The vCPUs that a mask names, a bit more.
use Rattle.std.proofs.Common.{◌≡◌, ℕ, zero, suc, ◌+◌, ◌<◌, ◌≤◌, Bool, true, false, ◌&&◌, ltb, [], ◌∷◌, refl, arith, add-one}
use Rattle.std.specs.List.{list_all}
use Rattle.std.proofs.lemmas.Bool.Decides.{nat_tests}
use Rattle.device_feed.specs.Calls.{mask_has_bit, named}

pub named_set : (mask base k : ℕ) → mask_has_bit mask k ≡ true → named mask base (k + 1) ≡ (base + k) ∷ named mask base k
unfolding named
named_set mask base k set = rw (add-one, set) refl

pub named_clear : (mask base k : ℕ) → mask_has_bit mask k ≡ false → named mask base (k + 1) ≡ named mask base k
unfolding named
named_clear mask base k clear = rw (add-one, clear) refl

pub named_none : (mask base : ℕ) → named mask base 0 ≡ []
unfolding named
named_none mask base = refl

and_false : (b : Bool) → (b && false) ≡ false
and_false true = refl
and_false false = refl

-- one set bit that names no vCPU is enough
unknown_more : (b c : Bool) (vcpus mask base n k : ℕ) → k < suc n → mask_has_bit mask k ≡ true → ltb (base + k) vcpus ≡ false → mask_has_bit mask n ≡ b → ltb k n ≡ c → (k < n → list_all (λ m. ltb m vcpus) (named mask base n) ≡ false) → list_all (λ m. ltb m vcpus) (named mask base (suc n)) ≡ false
unfolding named
unknown_more true true vcpus mask base n k m set far here below rest =
    let h : k < n = grind (arith, nat_tests) in
    rw (here, rest h) (and_false (ltb (base + n) vcpus))
unknown_more false true vcpus mask base n k m set far here below rest =
    let h : k < n = grind (arith, nat_tests) in
    rw here (rest h)
unknown_more true false vcpus mask base n k m set far here below rest =
    let last : k ≡ n = grind (arith, nat_tests) in
    let beyond : ltb (base + n) vcpus ≡ false = rw (← last) far in
    rw (here, beyond) refl
unknown_more false false vcpus mask base n k m set far here below rest =
    let last : k ≡ n = grind (arith, nat_tests) in
    let odd : mask_has_bit mask n ≡ true = rw (← last) set in
    cc

pub unknown : (vcpus mask base n k : ℕ) → k < n → mask_has_bit mask k ≡ true → ltb (base + k) vcpus ≡ false → list_all (λ m. ltb m vcpus) (named mask base n) ≡ false
unfolding named
unknown vcpus mask base zero k m set far = absurd (omega arith)
unknown vcpus mask base (suc n) k m set far = unknown_more (mask_has_bit mask n) (ltb k n) vcpus mask base n k m set far refl refl (λ h. unknown vcpus mask base n k h set far)

pub not_below : (a b : ℕ) → ltb a b ≡ false → b ≤ a
not_below a b far = grind (arith, nat_tests)
