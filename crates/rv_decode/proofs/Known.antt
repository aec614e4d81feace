-- What is known of a word's row from some of its bits.
use Rattle.std.proofs.Common.{◌≡◌, ℕ, ◌+◌, ◌-◌, ◌*◌, ◌/◌, ◌%◌, ◌^◌, ◌<◌, List, [], ◌∷◌, refl, sym, ◌∙◌, ap, arith, Bool, true, false, cond, eqb, min, subst, eq-eqb, eqb-true}
use Rattle.std.specs.Prelude.{nat_eq, bit_and, if◌then◌else◌, ◌&&◌, ◌||◌, Option, Some, None}
use Rattle.std.proofs.lemmas.Nat.Bits.{same_from_bits, bit_at_and, bit_at_or}
use Rattle.std.specs.Int.{bit_at}
use Rattle.std.specs.Int.Bits.{and_comm, and_shr, and_mod, and_mask, and_high, bit_or}
use Rattle.std.proofs.Math.Nat.{mod-mod}
use Rattle.rv_decode.specs.declared.Inst.{Inst}
use Rattle.rv_decode.specs.Rows.{Row, first_fit, rows, decode_of, compressed_rows, decode16_of}
use Rattle.rv_decode.specs.Fields.{bits_of}

pub min_swap : (a b c : ℕ) → min (min a b) c ≡ min b (min a c)
min_swap a b c = omega arith

-- of the bits `w & m` and of those that a row asks, those that are both
pub and_swap : (w m k : ℕ) → bit_and (bit_and w m) k ≡ bit_and m (bit_and w k)
and_swap w m k = same_from_bits _ _ (λ i. simp bit_at_and (min_swap (bit_at w i) (bit_at m i) (bit_at k i)))

-- what the rows make of a word w, where `w & m` is known to be v: a row that it cannot be is left out, and where the bits known decide the test it is not made
unfoldable pub known_fit : ℕ → ℕ → List Row → ℕ → Option Inst
known_fit m v [] w = None
known_fit m v (r ∷ rs) w =
    if nat_eq (bit_and v r.mask) (bit_and m r.value)
    then (if nat_eq (bit_and m r.mask) r.mask && nat_eq (bit_and m r.value) r.value
    then (if r.when w then Some (r.reads w) else known_fit m v rs w)
    else (if nat_eq (bit_and w r.mask) r.value && r.when w then Some (r.reads w) else known_fit m v rs w))
    else known_fit m v rs w

known_step : {A : Type 0} (b c d p : Bool) (x y z : A) → (b ≡ true → c ≡ true) → (c ≡ true → d ≡ true → b ≡ true) → x ≡ y
    → cond (b && p) z x ≡ cond c (cond d (cond p z y) (cond (b && p) z y)) y
known_step true true true true x y z f g e = refl
known_step true true true false x y z f g e = e
known_step true true false true x y z f g e = refl
known_step true true false false x y z f g e = e
known_step true false d p x y z f g e = absurd (let h : false ≡ true = f refl in cc)
known_step false true true p x y z f g e = absurd (let h : false ≡ true = g refl refl in cc)
known_step false true false p x y z f g e = e
known_step false false d p x y z f g e = e

can_fit : (m v w k x : ℕ) → bit_and w m ≡ v → eqb (bit_and w k) x ≡ true → eqb (bit_and v k) (bit_and m x) ≡ true
can_fit m v w k x h e = grind (arith, and_swap, eq-eqb, eqb-true)

does_fit : (m v w k x : ℕ) → bit_and w m ≡ v → eqb (bit_and v k) (bit_and m x) ≡ true
    → (eqb (bit_and m k) k && eqb (bit_and m x) x) ≡ true → eqb (bit_and w k) x ≡ true
does_fit m v w k x h e d = grind (arith, and_swap, and_comm, eq-eqb, eqb-true)

pub fit_is_known : (m v w : ℕ) (rs : List Row) → bit_and w m ≡ v → first_fit rs w ≡ known_fit m v rs w
unfolding known_fit
fit_is_known m v w [] h = refl
fit_is_known m v w (r ∷ rs) h =
    known_step _ _ _ (r.when w) _ _ _ (can_fit m v w r.mask r.value h) (does_fit m v w r.mask r.value h) (fit_is_known m v w rs h)

-- what a word means, where `w & m` is known to be v
pub decode_known : (m v w : ℕ) → bit_and w m ≡ v → decode_of w ≡ known_fit m v rows w
unfolding decode_of
decode_known m v w h = fit_is_known m v w rows h

-- a row that a word is not of makes no difference
pub not_it : {A : Type 0} (x v : ℕ) (y : A) (z : Option A) → (x ≡ v → ⊥) → z ≡ None → (if nat_eq x v && true then Some y else z) ≡ None
not_it x v y z n e = grind (arith, eqb-true)

-- x is none of these numbers
abbrev pub NoneOf : ℕ → List ℕ → Type 0
NoneOf x [] = Unit {0}
NoneOf x (o ∷ os) = (x ≡ o → ⊥) × NoneOf x os

abbrev pub is_among : ℕ → List ℕ → Bool
is_among x [] = false
is_among x (o ∷ os) = nat_eq x o || is_among x os

-- each row asks that `w & m` be one of these numbers
abbrev pub ask_one_of : ℕ → List ℕ → List Row → Bool
ask_one_of m os [] = true
ask_one_of m os (r ∷ rs) = (nat_eq (bit_and m r.mask) m && is_among (bit_and m r.value) os) && ask_one_of m os rs

or_cases : {A : Type 0} (a b : Bool) → (a || b) ≡ true → (a ≡ true → A) → (b ≡ true → A) → A
or_cases true b h f g = f refl
or_cases false b h f g = g h

none_among : (x : ℕ) (os : List ℕ) → NoneOf x os → is_among x os ≡ true → ⊥
none_among x [] n h = cc
none_among x (o ∷ os) n h =
    let k : NoneOf x os → is_among x os ≡ true → ⊥ = none_among x os in
    let a : x ≡ o → ⊥ = n.0 in
    let b : NoneOf x os = n.1 in
    or_cases (eqb x o) (is_among x os) h (λ e. a (eqb-true x o e)) (k b)

asked : (m w k x : ℕ) → eqb (bit_and m k) m ≡ true → eqb (bit_and w k) x ≡ true → bit_and w m ≡ bit_and m x
asked m w k x h e = grind (arith, and_swap, and_comm, eqb-true)

no_step : {A : Type 0} (b p : Bool) (x : A) (z : Option A) → (b ≡ true → ⊥) → z ≡ None → cond (b && p) (Some x) z ≡ None
no_step true p x z f e = absurd (f refl)
no_step false p x z f e = e

pub and_left : (a b : Bool) → (a && b) ≡ true → a ≡ true
and_left true b h = refl
and_left false b h = h

pub and_right : (a b : Bool) → (a && b) ≡ true → b ≡ true
and_right true b h = h
and_right false b h = absurd (cc)

pub no_row : (m w : ℕ) (os : List ℕ) (rs : List Row) → ask_one_of m os rs ≡ true → NoneOf (bit_and w m) os → first_fit rs w ≡ None
no_row m w os [] h n = refl
no_row m w os (r ∷ rs) h n =
    let both : (nat_eq (bit_and m r.mask) m && is_among (bit_and m r.value) os) ≡ true = and_left _ _ h in
    let covers : nat_eq (bit_and m r.mask) m ≡ true = and_left _ _ both in
    let one : is_among (bit_and m r.value) os ≡ true = and_right _ _ both in
    no_step _ (r.when w) _ _
    (λ (e : eqb (bit_and w r.mask) r.value ≡ true).
    none_among (bit_and w m) os n (let P : ℕ → Type 0 = λ y. is_among y os ≡ true in subst P (sym (asked m w r.mask r.value covers e)) one))
    (no_row m w os rs (and_right _ _ h) n)

pub decode_none : (m w : ℕ) (os : List ℕ) → ask_one_of m os rows ≡ true → NoneOf (bit_and w m) os → decode_of w ≡ None
unfolding decode_of
decode_none m w os h n = no_row m w os rows h n

pub decode16_known : (m v h : ℕ) → bit_and h m ≡ v → decode16_of h ≡ known_fit m v compressed_rows h
unfolding decode16_of
decode16_known m v h e = fit_is_known m v h compressed_rows e

pub decode16_none : (m h : ℕ) (os : List ℕ) → ask_one_of m os compressed_rows ≡ true → NoneOf (bit_and h m) os → decode16_of h ≡ None
unfolding decode16_of
decode16_none m h os e n = no_row m h os compressed_rows e n

-- what is known of two sets of bits is known of both together
pub and_join : (w m v k x : ℕ) → bit_and w m ≡ v → bit_and w k ≡ x → bit_and w (bit_or m k) ≡ bit_or v x
and_join w m v k x e f = same_from_bits _ _ (λ i. grind (arith, bit_at_and, bit_at_or, ap (λ y. bit_at y i) e, ap (λ y. bit_at y i) f))

-- a field that is known is some bits that are known
pub field_known : (w k n v : ℕ) → bits_of w k n ≡ v → bit_and w (2 ^ (n + k) - 2 ^ k) ≡ v * 2 ^ k
field_known w k n v e = and_high w n k ∙ ap (λ y. y * 2 ^ k) e

mod_twice : (x n : ℕ) → x % 2 ^ n % 2 ^ n ≡ x % 2 ^ n
mod_twice x n = mod-mod x (2 ^ n)

-- and bits that are known give the fields among them
pub known_field : (w m v k n : ℕ) → bit_and w m ≡ v → bits_of m k n ≡ 2 ^ n - 1 → bits_of w k n ≡ bits_of v k n
known_field w m v k n e f =
    sym (ap (λ y. y / 2 ^ k % 2 ^ n) (sym e) ∙ ap (λ y. y % 2 ^ n) (and_shr w m k) ∙ and_mod (w / 2 ^ k) (m / 2 ^ k) n
    ∙ ap (λ y. bit_and (bits_of w k n) y) f ∙ and_mask (bits_of w k n) n ∙ mod_twice (w / 2 ^ k) n)

-- all 32 bits of a word
pub and_all : (w : ℕ) → w < 2 ^ 32 → bit_and w 0xffffffff ≡ w
and_all w h = and_mask w 32 ∙ (omega (arith, h))
