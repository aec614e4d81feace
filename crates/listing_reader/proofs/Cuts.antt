-- Bytes cut at the first of some byte, and lines cut at newlines.
use Rattle.std.proofs.Common.{◌≡◌, ℕ, zero, suc, ◌+◌, ◌<◌, ◌≤◌, Bool, true, false, cond, not, List, [], ◌∷◌, ◌++◌, length, take, drop, Option, Some, None, refl, ap, sym, ◌∙◌, subst, arith, add-one, eqb-true, ltb, length-drop, length-append, ◌-◌}
use Rattle.std.proofs.lemmas.List.{take_all}
use Rattle.std.specs.Prelude.{◌==◌, if◌then◌else◌, option_map}
use Rattle.std.specs.List.{position, position_or_len, prefix_len}
use Rattle.std.proofs.lemmas.Bool.{false≢true, eq-eqb, lt-ltb, le-ltb, ltb-true, ltb-false}
use Rattle.listing_reader.specs.Lines.{cut_at}
use Rattle.listing_reader.specs.Reading.{lines_of_listing, before_first_line}

-- no byte is this one
abbrev pub is_free : ℕ → List ℕ → Bool
is_free b [] = true
is_free b (x ∷ xs) = cond (x == b) false (is_free b xs)

pub free-append : (b : ℕ) (xs ys : List ℕ) → is_free b xs ≡ true → is_free b ys ≡ true → is_free b (xs ++ ys) ≡ true
free-append b [] ys f g = g
free-append b (x ∷ xs) ys f g =
    elim (x == b) as (λ t. cond t false (is_free b xs) ≡ true → cond t false (is_free b (xs ++ ys)) ≡ true) [
      | true ↦ λ f. absurd (false≢true f)
      | false ↦ λ f. free-append b xs ys f g
    ] f

abbrev cut_here : List ℕ → Option (List ℕ × List ℕ)
cut_here xs = Some ([], xs)

abbrev cut_later : ℕ → Option (List ℕ × List ℕ) → Option (List ℕ × List ℕ)
cut_later x cut = option_map (λ cut. (x ∷ cut.0, cut.1)) cut

same-cut : (a b : List ℕ × List ℕ) → Some a ≡ Some b → a ≡ b
same-cut a b e = cc

no-cut : (a : List ℕ × List ℕ) → Some a ≡ None → ⊥
no-cut a e = cc

-- bytes with the byte in them are cut there
pub cut-free : (b : ℕ) (xs ys : List ℕ) → is_free b xs ≡ true → cut_at b (xs ++ b ∷ ys) ≡ Some (xs, ys)
cut-free b [] ys f = rw (eq-eqb b b refl) refl
cut-free b (x ∷ xs) ys f =
    elim (x == b) as (λ t. cond t false (is_free b xs) ≡ true
    → (cond t (cut_here (xs ++ b ∷ ys)) (cut_later x (cut_at b (xs ++ b ∷ ys)))) ≡ Some (x ∷ xs, ys)) [
      | true ↦ λ f. absurd (false≢true f)
      | false ↦ λ f. ap (cut_later x) (cut-free b xs ys f)
    ] f

-- what a cut says of the bytes
abbrev pub IsCut : ℕ → List ℕ → List ℕ × List ℕ → Type 0
IsCut b bytes cut = (bytes ≡ cut.0 ++ b ∷ cut.1) × (is_free b cut.0 ≡ true)

pub cut-is : (b : ℕ) (bytes : List ℕ) (cut : List ℕ × List ℕ) → cut_at b bytes ≡ Some cut → IsCut b bytes cut
cut-is b [] cut e = absurd (no-cut cut (sym e))
cut-is b (x ∷ xs) cut e =
    elim (x == b) as (λ t. (x == b) ≡ t → (cond t (cut_here xs) (cut_later x (cut_at b xs))) ≡ Some cut → IsCut b (x ∷ xs) cut) [
      | true ↦ λ is e.
          let here : x ≡ b = eqb-true x b is in
          let same = same-cut ([], xs) cut e in
          subst (IsCut b (x ∷ xs)) same (ap (λ y. y ∷ xs) here, refl)
      | false ↦ λ is e.
          elim (cut_at b xs) as (λ o. cut_at b xs ≡ o → cut_later x o ≡ Some cut → IsCut b (x ∷ xs) cut) [
            | None ↦ λ at e. absurd (no-cut cut (sym e))
            | Some rest ↦ λ at e.
                let before : IsCut b xs rest = cut-is b xs rest at in
                let same = same-cut (x ∷ rest.0, rest.1) cut e in
                subst (IsCut b (x ∷ xs)) same (ap (λ ys. x ∷ ys) before.0, rw is before.1)
          ] refl e
    ] refl e

pub cut-none : (b : ℕ) (bytes : List ℕ) → cut_at b bytes ≡ None → is_free b bytes ≡ true
cut-none b [] e = refl
cut-none b (x ∷ xs) e =
    elim (x == b) as (λ t. (cond t (cut_here xs) (cut_later x (cut_at b xs))) ≡ None → cond t false (is_free b xs) ≡ true) [
      | true ↦ λ e. absurd (no-cut ([], xs) e)
      | false ↦ λ e.
          elim (cut_at b xs) as (λ o. cut_at b xs ≡ o → cut_later x o ≡ None → is_free b xs ≡ true) [
            | None ↦ λ at e. cut-none b xs at
            | Some rest ↦ λ at e. absurd (no-cut (x ∷ rest.0, rest.1) e)
          ] refl e
    ] e

-- a line with its newline is the first of the lines
pub lines-free : (xs ys : List ℕ) → is_free 0x0a xs ≡ true → lines_of_listing (xs ++ 0x0a ∷ ys) ≡ (xs ++ 0x0a ∷ []) ∷ lines_of_listing ys
lines-free [] ys f = refl
lines-free (x ∷ xs) ys f =
    elim (x == 0x0a) as (λ t. cond t false (is_free 0x0a xs) ≡ true
    → (if t then (x ∷ []) ∷ lines_of_listing (xs ++ 0x0a ∷ ys) else before_first_line x (lines_of_listing (xs ++ 0x0a ∷ ys))) ≡ (x ∷ xs ++ 0x0a ∷ []) ∷ lines_of_listing ys) [
      | true ↦ λ f. absurd (false≢true f)
      | false ↦ λ f. ap (before_first_line x) (lines-free xs ys f)
    ] f

-- bytes without a newline are one line
pub lines-alone : (x : ℕ) (xs : List ℕ) → is_free 0x0a (x ∷ xs) ≡ true → lines_of_listing (x ∷ xs) ≡ (x ∷ xs) ∷ []
lines-alone x [] f =
    elim (x == 0x0a) as (λ t. (if t then (x ∷ []) ∷ [] else (x ∷ []) ∷ []) ≡ (x ∷ []) ∷ []) [ true ↦ refl | false ↦ refl ]
lines-alone x (y ∷ ys) f =
    elim (x == 0x0a) as (λ t. cond t false (is_free 0x0a (y ∷ ys)) ≡ true
    → (if t then (x ∷ []) ∷ lines_of_listing (y ∷ ys) else before_first_line x (lines_of_listing (y ∷ ys))) ≡ (x ∷ y ∷ ys) ∷ []) [
      | true ↦ λ f. absurd (false≢true f)
      | false ↦ λ f. ap (before_first_line x) (lines-alone y ys f)
    ] f

abbrev pub taken : List ℕ → ℕ → List ℕ × List ℕ
taken bytes n = (take n bytes, drop (n + 1) bytes)

cut-further : (b x k : ℕ) (xs : List ℕ) (t : Bool) → ltb k (length xs) ≡ t → option_map (taken xs) (cond t (Some k) None) ≡ cut_at b xs
    → option_map (taken (x ∷ xs)) (cond (ltb (1 + k) (length (x ∷ xs))) (Some (1 + k)) None) ≡ cut_later x (cut_at b xs)
cut-further b x k xs true is before =
    let within : k < length xs = ltb-true k (length xs) is in
    let test : ltb (1 + k) (length (x ∷ xs)) ≡ true = lt-ltb (1 + k) (length (x ∷ xs)) (omega (arith, within)) in
    let one : 1 + k ≡ suc k = omega arith in
    let two : suc k + 1 ≡ suc (k + 1) = omega arith in
    rw (test, one, two) (ap (cut_later x) before)
cut-further b x k xs false is before =
    let beyond : length xs ≤ k = ltb-false k (length xs) is in
    let test : ltb (1 + k) (length (x ∷ xs)) ≡ false = le-ltb (1 + k) (length (x ∷ xs)) (omega (arith, beyond)) in
    rw test (ap (cut_later x) before)

-- a cut is at the first place of the byte
pub cut-position : (b : ℕ) (bytes : List ℕ) → option_map (taken bytes) (position (λ x. x == b) bytes) ≡ cut_at b bytes
cut-position b [] = refl
cut-position b (x ∷ xs) =
    elim (x == b) as (λ t. option_map (taken (x ∷ xs)) (cond (ltb (cond (not t) (1 + position_or_len (λ y. y == b) xs) 0) (length (x ∷ xs))) (Some (cond (not t) (1 + position_or_len (λ y. y == b) xs) 0)) None)
    ≡ (cond t (cut_here xs) (cut_later x (cut_at b xs)))) [
      | true ↦ (let test : ltb 0 (length (x ∷ xs)) ≡ true = lt-ltb 0 (length (x ∷ xs)) (omega arith) in rw test refl)
      | false ↦ cut-further b x (position_or_len (λ y. y == b) xs) xs (ltb (position_or_len (λ y. y == b) xs) (length xs)) refl (cut-position b xs)
    ]

pub free-none : (b : ℕ) (bytes : List ℕ) → is_free b bytes ≡ true → cut_at b bytes ≡ None
free-none b [] f = refl
free-none b (x ∷ xs) f =
    elim (x == b) as (λ t. cond t false (is_free b xs) ≡ true → cond t (cut_here xs) (cut_later x (cut_at b xs)) ≡ None) [
      | true ↦ λ f. absurd (false≢true f)
      | false ↦ λ f. ap (cut_later x) (free-none b xs f)
    ] f

pub cut-nowhere : (b : ℕ) (bytes : List ℕ) (o : Option ℕ) → o ≡ position (λ x. x == b) bytes → o ≡ None → None ≡ cut_at b bytes
cut-nowhere b bytes o at is = ap (option_map (taken bytes)) (sym is ∙ at) ∙ cut-position b bytes

pub cut-there : (b : ℕ) (bytes : List ℕ) (o : Option ℕ) (n : ℕ) → o ≡ position (λ x. x == b) bytes → o ≡ Some n
    → Some (take n bytes, take (length bytes - (n + 1)) (drop (n + 1) bytes)) ≡ cut_at b bytes
cut-there b bytes o n at is =
    let rest : take (length bytes - (n + 1)) (drop (n + 1) bytes) ≡ drop (n + 1) bytes = take_all (length bytes - (n + 1)) (drop (n + 1) bytes) (omega (arith, length-drop (n + 1) bytes)) in
    ap (λ xs. Some (take n bytes, xs)) rest ∙ ap (option_map (taken bytes)) (sym is ∙ at) ∙ cut-position b bytes

pub cut-shorter : (b : ℕ) (bytes : List ℕ) (cut : List ℕ × List ℕ) → cut_at b bytes ≡ Some cut → length cut.1 < length bytes
cut-shorter b bytes cut e =
    let is = cut-is b bytes cut e in
    let long : length bytes ≡ length cut.0 + length (b ∷ cut.1) = ap length is.0 ∙ length-append cut.0 (b ∷ cut.1) in
    omega (arith, long)
