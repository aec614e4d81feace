-- No two rows share a word, so a word means each row that it fits.
use Rattle.std.proofs.Common.{◌≡◌, ℕ, zero, suc, ◌<◌, length, List, [], ◌∷◌, refl, ◌∙◌, arith, Bool, true, false, cond, eqb, eq-eqb, eqb-true}
use Rattle.std.specs.Prelude.{nat_eq, bit_and, ◌&&◌, not, Option, Some, None, All, slice_index_or}
use Rattle.std.specs.Int.Bits.{and_comm}
use Rattle.rv_decode.specs.Rows.{Row, IsOfRow, first_fit, rows, decode_of, compressed_rows, decode16_of}
use Rattle.rv_decode.proofs.Known.{and_swap, and_left, and_right}

pub data IsIn : Row → List Row → Type 0 where
  here : (r : Row) (rs : List Row) → IsIn r (r ∷ rs)
  there : (r s : Row) (rs : List Row) → IsIn r rs → IsIn r (s ∷ rs)

-- s has no word of a row of the list
abbrev pub apart : Row → List Row → Bool
apart s [] = true
apart s (r ∷ rs) = not (nat_eq (bit_and s.value r.mask) (bit_and r.value s.mask)) && apart s rs

abbrev pub all_apart : List Row → Bool
all_apart [] = true
all_apart (r ∷ rs) = apart r rs && all_apart rs

pub rows_apart : all_apart rows ≡ true
unfolding rows
rows_apart = refl

clash : (w k x l y : ℕ) → bit_and w k ≡ x → bit_and w l ≡ y → bit_and x l ≡ bit_and y k
clash w k x l y e f = grind (arith, and_swap, and_comm)

apart_of : (s r : Row) (rs : List Row) → IsIn r rs → apart s rs ≡ true → not (eqb (bit_and s.value r.mask) (bit_and r.value s.mask)) ≡ true
apart_of s _ _ (here r rs) h = and_left _ _ h
apart_of s _ _ (there r q rs i) h = apart_of s r rs i (and_right _ _ h)

pub skip : {A : Type 0} (b p : Bool) (x y : Option A) → (b ≡ true → ⊥) → cond (b && p) x y ≡ y
skip true p x y f = absurd (f refl)
skip false p x y f = refl

pub take_it : {A : Type 0} (b p : Bool) (x y : Option A) → b ≡ true → p ≡ true → cond (b && p) x y ≡ x
take_it true true x y e f = refl
take_it true false x y e f = absurd (cc)
take_it false p x y e f = absurd (cc)

neither : {A : Type 0} (b p : Bool) (x : A) (z : Option A) → (b ≡ true → p ≡ true → ⊥) → z ≡ None → cond (b && p) (Some x) z ≡ None
neither true true x z f e = absurd (f refl refl)
neither true false x z f e = e
neither false p x z f e = e

not_both : (b : Bool) → b ≡ true → not b ≡ true → ⊥
not_both true h k = cc
not_both false h k = cc

pub one_row : (w : ℕ) (r : Row) (rs : List Row) → IsIn r rs → all_apart rs ≡ true → bit_and w r.mask ≡ r.value → r.when w ≡ true → first_fit rs w ≡ Some (r.reads w)
one_row w _ _ (here r rs) a e p = take_it _ _ _ _ (eq-eqb _ _ e) p
one_row w _ _ (there r s rs i) a e p =
    skip _ (s.when w) _ _
    (λ (f : eqb (bit_and w s.mask) s.value ≡ true).
    not_both _ (eq-eqb _ _ (clash w s.mask s.value r.mask r.value (eqb-true _ _ f) e)) (apart_of s r rs i (and_left _ _ a)))
    ∙ one_row w r rs i (and_right _ _ a) e p

-- a fact of each row, row by row
abbrev pub Each : (Row → Type 0) → List Row → Type 0
Each P [] = Unit {0}
Each P (r ∷ rs) = P r × Each P rs

pub all_from_each : (P : Row → Type 0) (rs : List Row) → Each P rs → (k : ℕ) (d : Row) → k < length rs → P (slice_index_or rs k d)
all_from_each P [] e k d h = absurd (omega arith)
all_from_each P (r ∷ rs) e zero d h = e.0
all_from_each P (r ∷ rs) e (suc k) d h = all_from_each P rs e.1 k d (omega arith)

is_in : (rs : List Row) (k : ℕ) (d : Row) → k < length rs → IsIn (slice_index_or rs k d) rs
is_in [] k d h = absurd (omega arith)
is_in (r ∷ rs) zero d h = here r rs
is_in (r ∷ rs) (suc k) d h = there (slice_index_or rs k d) r rs (is_in rs k d (omega arith))

-- each row is the meaning of the words that fit it
pub words_mean_rows : All (λ r. (w : ℕ) → IsOfRow r w → decode_of w ≡ Some (r.reads w)) rows
unfolding decode_of
words_mean_rows k d h w f = one_row w (slice_index_or rows k d) rows (is_in rows k d h) rows_apart f.0 f.1

none_fits : (w : ℕ) (rs : List Row) → All (λ r. IsOfRow r w → ⊥) rs → first_fit rs w ≡ None
none_fits w [] a = refl
none_fits w (r ∷ rs) a =
    let no : IsOfRow r w → ⊥ = a 0 r (omega arith) in
    let rest : All (λ s. IsOfRow s w → ⊥) rs = (λ k d h. a (suc k) d (omega arith)) in
    neither _ _ _ _ (λ p q. no (eqb-true _ _ p, q)) (none_fits w rs rest)

pub no_word : (w : ℕ) → All (λ r. IsOfRow r w → ⊥) rows → decode_of w ≡ None
unfolding decode_of
no_word w a = none_fits w rows a

pub no_halfword : (h : ℕ) → All (λ r. IsOfRow r h → ⊥) compressed_rows → decode16_of h ≡ None
unfolding decode16_of
no_halfword h a = none_fits h compressed_rows a
