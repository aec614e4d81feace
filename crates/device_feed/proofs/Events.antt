-- Events in order of their clocks: those that are due are the first so many.
use Rattle.std.proofs.Common.{◌≡◌, ℕ, zero, suc, ◌<◌, ◌≤◌, Bool, true, false, List, [], ◌∷◌, length, get_or, take, ap, refl, arith}
use Rattle.std.specs.List.{filter}
use Rattle.std.specs.List.Sorted.{IsNonDecreasingBy}
use Rattle.guest_input.specs.Accepted.{AreEvents}
use Rattle.guest_input.specs.declared.setup.Event.{Event}

-- the clocks are not below the first bound
pub above : (vcpus low : ℕ) (es : List Event) (j : ℕ) (d : Event) → AreEvents vcpus low es → j < length es → low ≤ (get_or es j d).at
above vcpus low [] j d h m = absurd (omega arith)
above vcpus low (e ∷ es) zero d h m = h.0
above vcpus low (e ∷ es) (suc j) d h m =
    let first : low ≤ e.at = h.0 in
    let next : e.at ≤ (get_or es j d).at = above vcpus e.at es j d h.2 (omega arith) in
    omega arith

-- the clocks do not fall
pub rising : (vcpus low : ℕ) (es : List Event) → AreEvents vcpus low es → IsNonDecreasingBy (λ (e : Event). e.at) es
rising vcpus low [] h i j d le m = absurd (omega arith)
rising vcpus low (e ∷ es) h zero zero d le m = omega arith
rising vcpus low (e ∷ es) h zero (suc j) d le m = above vcpus e.at es j d h.2 (omega arith)
rising vcpus low (e ∷ es) h (suc i) zero d le m = absurd (omega arith)
rising vcpus low (e ∷ es) h (suc i) (suc j) d le m = rising vcpus e.at es h.2 i j d (omega arith) (omega arith)

-- where the first i items pass a test and no other does, they are what passes
pub filter-take : {X : Type 0} (p : X → Bool) (xs : List X) (i : ℕ) → i ≤ length xs → ((k : ℕ) (d : X) → k < i → p (get_or xs k d) ≡ true) → ((k : ℕ) (d : X) → i ≤ k → k < length xs → p (get_or xs k d) ≡ false) → filter p xs ≡ take i xs
filter-take p [] zero m pass fail = refl
filter-take p [] (suc i) m pass fail = absurd (omega arith)
filter-take p (x ∷ xs) zero m pass fail =
    let here : p x ≡ false = fail 0 x (omega arith) (omega arith) in
    rw here (filter-take p xs zero (omega arith) (λ k d h. absurd (omega arith)) (λ k d h n. fail (suc k) d (omega arith) (omega arith)))
filter-take p (x ∷ xs) (suc i) m pass fail =
    let here : p x ≡ true = pass 0 x (omega arith) in
    rw here (ap (λ t. x ∷ t) (filter-take p xs i (omega arith) (λ k d h. pass (suc k) d (omega arith)) (λ k d h n. fail (suc k) d (omega arith) (omega arith))))
