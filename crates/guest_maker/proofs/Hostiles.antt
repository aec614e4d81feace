-- The text and the functions of a hostile guest: what one more halfword adds, how long they are, and where functions stand.
use Rattle.std.proofs.Common.{◌≡◌, ℕ, zero, suc, ◌+◌, ◌-◌, ◌*◌, ◌%◌, ◌<◌, ◌≤◌, Bool, true, false, cond, List, [], ◌∷◌, ◌++◌, length, refl, sym, ap, ◌∙◌, arith, append_assoc, length-append}
use Rattle.std.specs.Prelude.{flat_map, if◌then◌else◌}
use Rattle.std.proofs.lemmas.List.{append-nil}
use Rattle.std.specs.Int.{w16, to_le_bytes}
use Rattle.guest_input.specs.declared.image.Function.{Function}
use Rattle.guest_maker.specs.declared.hostile.TheConstants.{HEAD, HALVES_FROM, HALVES}
use Rattle.guest_maker.specs.Hostile.{drawn_half, behind_half_and_start, starts_at, halves, hostile_function, functions_at, hostile_text, hostile_functions}
use Rattle.guest_maker.proofs.Lawful.{IsPages, Stand, AreFunctions}

pub halves-more : (n s : ℕ) → 0 < n → halves n s ≡ drawn_half s ∷ halves (n - 1) (behind_half_and_start s)
unfolding halves
halves-more zero s h = absurd (omega (arith, h))
halves-more (suc n) s h = ap (λ m. drawn_half s ∷ halves m (behind_half_and_start s)) (omega arith)

-- the function at a halfword, where one starts there
abbrev pub at_half : ℕ → ℕ → List Function
at_half k s = if starts_at s then hostile_function k ∷ [] else []

pub functions_at-more : (n k s : ℕ) → 0 < n → functions_at n k s ≡ at_half k s ++ functions_at (n - 1) (k + 1) (behind_half_and_start s)
unfolding functions_at
functions_at-more zero k s h = absurd (omega (arith, h))
functions_at-more (suc n) k s h =
    let rest = functions_at n (k + 1) (behind_half_and_start s) in
    let split : (b : Bool) → (if b then hostile_function k ∷ rest else rest) ≡ (if b then hostile_function k ∷ [] else []) ++ rest
    = λ b. elim b as (λ v. (if v then hostile_function k ∷ rest else rest) ≡ (if v then hostile_function k ∷ [] else []) ++ rest) [ true ↦ refl | false ↦ refl ] in
    split (starts_at s) ∙ ap (λ m. at_half k s ++ functions_at m (k + 1) (behind_half_and_start s)) (omega arith)

abbrev pub half_bytes : List ℕ → List ℕ
half_bytes halfwords = flat_map (to_le_bytes w16) halfwords

pub text_step : (before grown whole : List ℕ) (m s behind_s : ℕ) → 0 < m → grown ≡ before ++ to_le_bytes w16 (drawn_half s) → behind_s ≡ behind_half_and_start s
    → before ++ half_bytes (halves m s) ≡ whole → grown ++ half_bytes (halves (m - 1) behind_s) ≡ whole
text_step before grown whole m s behind_s some more state h =
    ap (λ t. t ++ half_bytes (halves (m - 1) behind_s)) more
    ∙ append_assoc before (to_le_bytes w16 (drawn_half s)) (half_bytes (halves (m - 1) behind_s))
    ∙ ap (λ z. before ++ (to_le_bytes w16 (drawn_half s) ++ half_bytes (halves (m - 1) z))) state
    ∙ ap (λ l. before ++ half_bytes l) (sym (halves-more m s some)) ∙ h

with_half : (b : Bool) (before : List Function) (f : Function) → (if b then before ++ f ∷ [] else before) ≡ before ++ (if b then f ∷ [] else [])
with_half true before f = refl
with_half false before f = sym (append-nil before)

pub functions_step : (before grown whole : List Function) (m k s behind_s : ℕ) → 0 < m → grown ≡ (if starts_at s then before ++ hostile_function k ∷ [] else before) → behind_s ≡ behind_half_and_start s
    → before ++ functions_at m k s ≡ whole → grown ++ functions_at (m - 1) (k + 1) behind_s ≡ whole
functions_step before grown whole m k s behind_s some more state h =
    ap (λ t. t ++ functions_at (m - 1) (k + 1) behind_s) (more ∙ with_half (starts_at s) before (hostile_function k))
    ∙ append_assoc before (at_half k s) (functions_at (m - 1) (k + 1) behind_s)
    ∙ ap (λ z. before ++ (at_half k s ++ functions_at (m - 1) (k + 1) z)) state
    ∙ ap (λ l. before ++ l) (sym (functions_at-more m k s some)) ∙ h

pub text_end : (made whole : List ℕ) (m s : ℕ) → m ≡ 0 → made ++ half_bytes (halves m s) ≡ whole → made ≡ whole
unfolding halves
text_end made whole m s none h = sym (append-nil made) ∙ ap (λ n. made ++ half_bytes (halves n s)) (sym none) ∙ h

pub functions_end : (made whole : List Function) (m k s : ℕ) → m ≡ 0 → made ++ functions_at m k s ≡ whole → made ≡ whole
unfolding functions_at
functions_end made whole m k s none h = sym (append-nil made) ∙ ap (λ n. made ++ functions_at n k s) (sym none) ∙ h

stand_at : (n k s low size : ℕ) → low < 2 * k → 2 * (k + n) ≤ size → low < size → Stand low (functions_at n k s) size
unfolding functions_at
stand_at zero k s low size a b c = c
stand_at (suc n) k s low size a b c =
    let there : Stand (2 * k) (functions_at n (k + 1) (behind_half_and_start s)) size = stand_at n (k + 1) (behind_half_and_start s) (2 * k) size (omega arith) (omega (arith, b)) (omega (arith, b)) in
    let not_there : Stand low (functions_at n (k + 1) (behind_half_and_start s)) size = stand_at n (k + 1) (behind_half_and_start s) low size (omega (arith, a)) (omega (arith, b)) c in
    elim (starts_at s) as (λ v. Stand low (if v then hostile_function k ∷ functions_at n (k + 1) (behind_half_and_start s) else functions_at n (k + 1) (behind_half_and_start s)) size) [
      | true ↦ (refl, a, omega arith, there)
      | false ↦ not_there
    ]

length-functions_at : (n k s : ℕ) → length (functions_at n k s) ≤ n
unfolding functions_at
length-functions_at zero k s = omega arith
length-functions_at (suc n) k s =
    let few = length-functions_at n (k + 1) (behind_half_and_start s) in
    elim (starts_at s) as (λ v. length (if v then hostile_function k ∷ functions_at n (k + 1) (behind_half_and_start s) else functions_at n (k + 1) (behind_half_and_start s)) ≤ suc n) [
      | true ↦ omega (arith, few)
      | false ↦ omega (arith, few)
    ]

length-halves : (n s : ℕ) → length (flat_map (to_le_bytes w16) (halves n s)) ≡ 2 * n
unfolding halves
length-halves zero s = refl
length-halves (suc n) s = omega (arith, length-halves n (behind_half_and_start s))

pub length-hostile_text : (seed : ℕ) → length (hostile_text seed) ≡ 8192
unfolding hostile_text
length-hostile_text seed = omega (arith, length-append HEAD (flat_map (to_le_bytes w16) (halves HALVES seed)), length-halves HALVES seed)

pub hostile_pages : (seed : ℕ) → IsPages (hostile_text seed)
hostile_pages seed =
    let long = length-hostile_text seed in
    record { some = omega (arith, long); whole = rw long refl; most = omega (arith, long) }

pub hostile_stand : (seed : ℕ) → AreFunctions (hostile_functions seed) (length (hostile_text seed))
unfolding hostile_functions
hostile_stand seed =
    let long = length-hostile_text seed in
    (refl, refl, stand_at HALVES HALVES_FROM seed 0 (length (hostile_text seed)) (omega arith) (omega (arith, long)) (omega (arith, long)))

pub hostile_few : (seed : ℕ) → length (hostile_functions seed) ≤ 4081
unfolding hostile_functions
hostile_few seed = omega (arith, length-functions_at HALVES HALVES_FROM seed)
