-- The digits that a number is printed with are read as that number.
use Rattle.std.proofs.Common.{◌≡◌, ℕ, zero, suc, ◌+◌, ◌*◌, ◌/◌, ◌%◌, ◌^◌, ◌<◌, ◌≤◌, Bool, true, false, cond, not, ltb, leb, eqb, List, [], ◌∷◌, length, get_or, Option, Some, None, refl, ap, sym, ◌∙◌, subst, arith, ◌&&◌, ◌||◌}
use Rattle.std.specs.Prelude.{◌==◌, if◌then◌else◌}
use Rattle.std.specs.Fmt.{decimal, digit_glyph, digits, digits_onto}
use Rattle.std.proofs.lemmas.Bool.{false≢true, both_ways, eqb-true, ltb-true, ltb-false, lt-ltb, le-leb, lt-leb, eq-eqb, ne_eqb, and_from, or_left, or_right, not_from_false, cond-true}
use Rattle.std.proofs.lemmas.Nat.{div-add-mod'}
use Rattle.std.proofs.Math.Nat.{mod-lt, pow-zero, pow-suc, one-le-pow, div-lt_iff_lt-mul}
use Rattle.listing_reader.specs.Lines.{digit_value, is_printed_number, number_behind, number_in, printed_number}
use Rattle.listing_reader.proofs.Cuts.{is_free}

glyph-value : (d : ℕ) → d < 16 → digit_value (digit_glyph false d) ≡ d
glyph-value d small =
    elim (ltb d 10) as (λ t. ltb d 10 ≡ t → digit_value (cond t (48 + d) (87 + d)) ≡ d) [
      | true ↦ λ is.
          let least : leb 0x30 (48 + d) ≡ true = le-leb 0x30 (48 + d) (omega arith) in
          let most : leb (48 + d) 0x39 ≡ true = le-leb (48 + d) 0x39 (omega (arith, ltb-true d 10 is)) in
          rw (least, most) (omega arith)
      | false ↦ λ is.
          let not_low : leb (87 + d) 0x39 ≡ false = lt-leb (87 + d) 0x39 (omega arith) in
          let low : leb 0x30 (87 + d) ≡ true = le-leb 0x30 (87 + d) (omega arith) in
          let least : leb 0x61 (87 + d) ≡ true = le-leb 0x61 (87 + d) (omega (arith, ltb-false d 10 is)) in
          let most : leb (87 + d) 0x66 ≡ true = le-leb (87 + d) 0x66 (omega (arith, small)) in
          rw (low, not_low, least, most) (omega arith)
    ] refl

glyph-least : (d : ℕ) → 48 ≤ digit_glyph false d
glyph-least d = elim (ltb d 10) as (λ t. 48 ≤ cond t (48 + d) (87 + d)) [ true ↦ omega arith | false ↦ omega arith ]

glyph-first : (d : ℕ) → 0 < d → (digit_glyph false d == 0x30) ≡ false
glyph-first d some =
    ne_eqb (digit_glyph false d) 0x30 (elim (ltb d 10) as (λ t. cond t (48 + d) (87 + d) ≡ 0x30 → ⊥) [ true ↦ λ e. omega (arith, some, e) | false ↦ λ e. omega (arith, e) ])

-- one digit read
pub one-digit : (base m byte d : ℕ) (more : List ℕ) → digit_value byte ≡ d → d < base → number_behind base m (byte ∷ more) ≡ number_behind base (m * base + d) more
one-digit base m byte d more value digit =
    ap (λ v. cond (ltb v base) (number_behind base (m * base + v) more) None) value
    ∙ cond-true (ltb d base) (number_behind base (m * base + d) more) None (lt-ltb d base digit)

pos-from : (n : ℕ) → (n == 0) ≡ false → 0 < n
pos-from zero e = absurd (false≢true (sym e))
pos-from (suc n) e = omega arith

pow-some : (base : ℕ) → 2 ≤ base → 0 < base ^ 1
pow-some base two = one-le-pow 1 base (omega (arith, two))

-- the number before its last digit
less : (base k n : ℕ) → 2 ≤ base → n < base ^ suc k → n / base < base ^ k
less base k n some below =
    let power : n < base ^ k * base = subst (λ m. n < m) (pow-suc base k) below in
    let pos : 0 < base = omega (arith, some) in
    (div-lt_iff_lt-mul pos).1 power

pub number-digits : (base k n : ℕ) (more : List ℕ) → 2 ≤ base → base ≤ 16 → n < base ^ k → number_behind base 0 (digits_onto k base false n more) ≡ number_behind base n more
number-digits base zero n more some small below =
    let none : 0 ≡ n = omega (arith, below, pow-zero base) in
    ap (λ m. number_behind base m more) none
number-digits base (suc k) n more some small below =
    let digit : n % base < base = mod-lt n (omega (arith, some)) in
    let value = glyph-value (n % base) (omega (arith, digit, small)) in
    let whole : n / base * base + n % base ≡ n = div-add-mod' n base in
    elim (n / base == 0) as (λ t. (n / base == 0) ≡ t
    → number_behind base 0 (cond t (digit_glyph false (n % base) ∷ more) (digits_onto k base false (n / base) (digit_glyph false (n % base) ∷ more))) ≡ number_behind base n more) [
      | true ↦ λ is.
          let none : n / base ≡ 0 = eqb-true (n / base) 0 is in
          let alone : 0 * base + n % base ≡ n = ap (λ q. q * base + n % base) (sym none) ∙ whole in
          one-digit base 0 (digit_glyph false (n % base)) (n % base) more value digit ∙ ap (λ m. number_behind base m more) alone
      | false ↦ λ is.
          number-digits base k (n / base) (digit_glyph false (n % base) ∷ more) some small (less base k n some below)
          ∙ one-digit base (n / base) (digit_glyph false (n % base)) (n % base) more value digit
          ∙ ap (λ m. number_behind base m more) whole
    ] refl

first-digit : (base k n : ℕ) (more : List ℕ) → 2 ≤ base → 0 < n → n < base ^ k → (get_or (digits_onto k base false n more) 0 0 == 0x30) ≡ false
first-digit base zero n more two some below = absurd (omega (arith, some, below, pow-zero base))
first-digit base (suc k) n more two some below =
    let whole : n / base * base + n % base ≡ n = div-add-mod' n base in
    elim (n / base == 0) as (λ t. (n / base == 0) ≡ t
    → (get_or (cond t (digit_glyph false (n % base) ∷ more) (digits_onto k base false (n / base) (digit_glyph false (n % base) ∷ more))) 0 0 == 0x30) ≡ false) [
      | true ↦ λ is.
          let none : n / base ≡ 0 = eqb-true (n / base) 0 is in
          let alone : 0 * base + n % base ≡ n = ap (λ q. q * base + n % base) (sym none) ∙ whole in
          let zero_times : 0 * base ≡ 0 = omega arith in
          glyph-first (n % base) (omega (arith, alone, some, zero_times))
      | false ↦ λ is.
          let further : 0 < n / base = pos-from (n / base) is in
          first-digit base k (n / base) (digit_glyph false (n % base) ∷ more) two further (less base k n two below)
    ] refl

digits-short : (base k j n : ℕ) (more : List ℕ) → 2 ≤ base → n < base ^ suc j → length (digits_onto k base false n more) ≤ suc j + length more
digits-short base zero j n more two below = omega arith
digits-short base (suc k) zero n more two below =
    elim (n / base == 0) as (λ t. (n / base == 0) ≡ t
    → length (cond t (digit_glyph false (n % base) ∷ more) (digits_onto k base false (n / base) (digit_glyph false (n % base) ∷ more))) ≤ 1 + length more) [
      | true ↦ λ is. omega arith
      | false ↦ λ is.
          let few : n / base < base ^ 0 = less base 0 n two below in
          absurd (both_ways (n / base == 0) is (eq-eqb (n / base) 0 (omega (arith, few, pow-zero base))))
    ] refl
digits-short base (suc k) (suc j) n more two below =
    elim (n / base == 0) as (λ t.
    length (cond t (digit_glyph false (n % base) ∷ more) (digits_onto k base false (n / base) (digit_glyph false (n % base) ∷ more))) ≤ suc (suc j) + length more) [
      | true ↦ omega arith
      | false ↦
          (let rest : length (digits_onto k base false (n / base) (digit_glyph false (n % base) ∷ more)) ≤ suc j + suc (length more) = digits-short base k j (n / base) (digit_glyph false (n % base) ∷ more) two (less base (suc j) n two below) in
          omega (arith, rest))
    ]

digits-longer : (base k n : ℕ) (more : List ℕ) → length more ≤ length (digits_onto k base false n more)
digits-longer base zero n more = omega arith
digits-longer base (suc k) n more =
    elim (n / base == 0) as (λ t. length more ≤ length (cond t (digit_glyph false (n % base) ∷ more) (digits_onto k base false (n / base) (digit_glyph false (n % base) ∷ more)))) [
      | true ↦ omega arith
      | false ↦
          (let rest : suc (length more) ≤ length (digits_onto k base false (n / base) (digit_glyph false (n % base) ∷ more)) = digits-longer base k (n / base) (digit_glyph false (n % base) ∷ more) in
          omega (arith, rest))
    ]

digits-some : (base k n : ℕ) (more : List ℕ) → 1 ≤ k → 0 < length (digits_onto k base false n more)
digits-some base zero n more some = absurd (omega (arith, some))
digits-some base (suc k) n more some =
    elim (n / base == 0) as (λ t. 0 < length (cond t (digit_glyph false (n % base) ∷ more) (digits_onto k base false (n / base) (digit_glyph false (n % base) ∷ more)))) [
      | true ↦ omega arith
      | false ↦
          (let rest : suc (length more) ≤ length (digits_onto k base false (n / base) (digit_glyph false (n % base) ∷ more)) = digits-longer base k (n / base) (digit_glyph false (n % base) ∷ more) in
          omega (arith, rest))
    ]

pub digits-free : (b base k n : ℕ) (more : List ℕ) → b < 48 → is_free b more ≡ true → is_free b (digits_onto k base false n more) ≡ true
digits-free b base zero n more low f = f
digits-free b base (suc k) n more low f =
    let other : (digit_glyph false (n % base) == b) ≡ false = ne_eqb (digit_glyph false (n % base)) b (λ e. omega (arith, glyph-least (n % base), low, e)) in
    let here : is_free b (digit_glyph false (n % base) ∷ more) ≡ true = ap (λ t. cond t false (is_free b more)) other ∙ f in
    elim (n / base == 0) as (λ t. is_free b (cond t (digit_glyph false (n % base) ∷ more) (digits_onto k base false (n / base) (digit_glyph false (n % base) ∷ more))) ≡ true) [
      | true ↦ here
      | false ↦ digits-free b base k (n / base) (digit_glyph false (n % base) ∷ more) low here
    ]

digits-plain : (base k n : ℕ) → 1 ≤ k → 2 ≤ base → n < base ^ k → ((length (digits_onto k base false n []) == 1) || not (get_or (digits_onto k base false n []) 0 0 == 0x30)) ≡ true
digits-plain base k zero some two below =
    let power : 0 < base ^ 1 = pow-some base two in
    let short : length (digits_onto k base false 0 []) ≤ 1 + 0 = digits-short base k 0 0 [] two power in
    or_left (length (digits_onto k base false 0 []) == 1) (not (get_or (digits_onto k base false 0 []) 0 0 == 0x30)) (eq-eqb (length (digits_onto k base false 0 [])) 1 (omega (arith, short, digits-some base k 0 [] some)))
digits-plain base k (suc n) some two below =
    or_right (length (digits_onto k base false (suc n) []) == 1) (not (get_or (digits_onto k base false (suc n) []) 0 0 == 0x30))
    (not_from_false (get_or (digits_onto k base false (suc n) []) 0 0 == 0x30) (first-digit base k (suc n) [] two (omega arith) below))

printed-onto : (base k most n : ℕ) → 1 ≤ k → 2 ≤ base → base ≤ 16 → n < base ^ k → n < base ^ suc most → printed_number base (suc most) (digits_onto k base false n []) ≡ Some n
printed-onto base k most n some two small below short =
    let long : 0 < length (digits_onto k base false n []) = digits-some base k n [] some in
    let fits : length (digits_onto k base false n []) ≤ suc most + 0 = digits-short base k most n [] two short in
    let plain : is_printed_number (digits_onto k base false n []) ≡ true = and_from _ _ (lt-ltb 0 (length (digits_onto k base false n [])) long) (digits-plain base k n some two below) in
    let within : leb (length (digits_onto k base false n [])) (suc most) ≡ true = le-leb (length (digits_onto k base false n [])) (suc most) (omega (arith, fits)) in
    cond-true (is_printed_number (digits_onto k base false n []) && leb (length (digits_onto k base false n [])) (suc most)) (number_in base (digits_onto k base false n [])) None (and_from _ _ plain within)
    ∙ number-digits base k n [] two small below

-- a number of so many digits at most is read as it is printed
pub printed-digits : (base most n : ℕ) → 2 ≤ base → base ≤ 16 → n < base ^ 64 → n < base ^ suc most → printed_number base (suc most) (digits base false n) ≡ Some n
unfolding digits
printed-digits base most n two small below short = printed-onto base 64 most n (omega arith) two small below short

-- its digits are at '0' or above
pub printed-free : (b base n : ℕ) → b < 48 → is_free b (digits base false n) ≡ true
unfolding digits
printed-free b base n low = digits-free b base 64 n [] low refl
