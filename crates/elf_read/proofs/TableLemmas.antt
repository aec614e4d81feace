-- Names that end at the first zero byte, and tables that are read entry by entry.
use Rattle.std.proofs.Common.{◌≡◌, ℕ, zero, suc, ◌+◌, ◌≤◌, ◌==◌, not, nat_lt, Bool, true, false, cond, List, [], ◌∷◌, ◌++◌, take, length, map, append_assoc, Some, None, refl, sym, ap, ◌∙◌, arith}
use Rattle.std.specs.Prelude.{flat_map}
use Rattle.std.specs.List.{filter, find, position, position_or_len, prefix_len, before_first, range_with_len}
use Rattle.std.proofs.lemmas.Bool.Decides.{nat_tests}
use Rattle.std.proofs.lemmas.List.{take-map, take_all, append-nil}
use Rattle.std.proofs.lemmas.List.FromFn.{filter_of_map_range_with_len_more, map-range_with_len_more}
use Rattle.std.proofs.lemmas.Option.{none-some, same_Some}
use Rattle.elf_read.specs.declared.fields.Symbol.{Symbol}
use Rattle.elf_read.specs.Starts.{kept_name, shown_byte, or_question}

abbrev is_zero : ℕ → Bool
is_zero byte = byte == 0

-- ---- where the first zero byte is

pub before_some : (xs : List ℕ) (e : ℕ) → position is_zero xs ≡ Some e → take e xs ≡ before_first is_zero xs
before_some xs e found =
    elim (nat_lt (position_or_len is_zero xs) (length xs)) as (λ b. cond b (Some (position_or_len is_zero xs)) None ≡ Some e → take e xs ≡ before_first is_zero xs) [
      | true ↦ λ h. ap (λ k. take k xs) (sym (same_Some _ _ h))
      | false ↦ λ h. absurd (none-some e h)
    ] found

pub before_none : (xs : List ℕ) → position is_zero xs ≡ None → xs ≡ before_first is_zero xs
before_none xs none =
    elim (nat_lt (position_or_len is_zero xs) (length xs)) as (λ b. nat_lt (position_or_len is_zero xs) (length xs) ≡ b → cond b (Some (position_or_len is_zero xs)) None ≡ None → xs ≡ before_first is_zero xs) [
      | true ↦ λ is h. absurd (none-some _ (sym h))
      | false ↦ λ is h. let past : length xs ≤ position_or_len is_zero xs = grind (arith, nat_tests, is) in sym (take_all (position_or_len is_zero xs) xs past)
    ] refl none

-- ---- only the front of a name is looked at

until : List ℕ → List ℕ
until [] = []
until (x ∷ xs) = cond (x == 0) [] (x ∷ until xs)

until_is : (xs : List ℕ) → before_first is_zero xs ≡ until xs
unfolding until
until_is [] = refl
until_is (x ∷ xs) =
    elim (x == 0) as (λ b. take (cond (not b) (1 + prefix_len (λ y. not (is_zero y)) xs) 0) (x ∷ xs) ≡ cond b [] (x ∷ until xs)) [
      | true ↦ refl
      | false ↦
          let e : 1 + prefix_len (λ y. not (is_zero y)) xs ≡ suc (prefix_len (λ y. not (is_zero y)) xs) = omega arith in
          ap (λ k. take k (x ∷ xs)) e ∙ ap (λ l. x ∷ l) (until_is xs)
    ]

until-take : (n : ℕ) (xs : List ℕ) → until (take n xs) ≡ take n (until xs)
unfolding until
until-take zero [] = refl
until-take zero (x ∷ xs) = refl
until-take (suc n) [] = refl
until-take (suc n) (x ∷ xs) =
    elim (x == 0) as (λ b. cond b [] (x ∷ until (take n xs)) ≡ take (suc n) (cond b [] (x ∷ until xs))) [
      | true ↦ refl
      | false ↦ ap (λ l. x ∷ l) (until-take n xs)
    ]

at_most : (n : ℕ) (xs : List ℕ) → take n (take n xs) ≡ take n xs
at_most zero xs = refl
at_most (suc n) [] = refl
at_most (suc n) (x ∷ xs) = ap (λ l. x ∷ l) (at_most n xs)

kept_name-front : (xs : List ℕ) → kept_name (take 63 xs) ≡ kept_name xs
unfolding kept_name
kept_name-front xs =
    ap or_question (take-map shown_byte 63 (take 63 xs) ∙ ap (map shown_byte) (at_most 63 xs) ∙ sym (take-map shown_byte 63 xs))

pub kept_name-before : (xs : List ℕ) → kept_name (before_first is_zero (take 63 xs)) ≡ kept_name (before_first is_zero xs)
kept_name-before xs =
    ap kept_name (until_is (take 63 xs) ∙ until-take 63 xs) ∙ kept_name-front (until xs) ∙ ap kept_name (sym (until_is xs))

-- ---- one more entry of a table

pub flat_map-push : {A B : Type 0} (g : A → List B) (xs : List A) (x : A) → flat_map g (xs ++ x ∷ []) ≡ flat_map g xs ++ g x
flat_map-push g [] x = append-nil (g x)
flat_map-push g (y ∷ xs) x = ap (λ l. g y ++ l) (flat_map-push g xs x) ∙ sym (append_assoc (g y) (flat_map g xs) (g x))

pub filtered_more : {A : Type 0} (p : A → Bool) (f : ℕ → A) (n : ℕ) (old new : List A) (x : A) → old ≡ filter p (map f (range_with_len 0 n)) → x ≡ f n
    → new ≡ old ++ cond (p x) (x ∷ []) [] → new ≡ filter p (map f (range_with_len 0 (n + 1)))
filtered_more p f n old new x so_far is pushed =
    pushed ∙ ap (λ l. l ++ cond (p x) (x ∷ []) []) so_far ∙ ap (λ y. filter p (map f (range_with_len 0 n)) ++ cond (p y) (y ∷ []) []) is
    ∙ sym (filter_of_map_range_with_len_more p f 0 n n (omega arith))

pub mapped_more : {A : Type 0} (f : ℕ → A) (n : ℕ) (old new : List A) (x : A) → old ≡ map f (range_with_len 0 n) → x ≡ f n
    → new ≡ old ++ x ∷ [] → new ≡ map f (range_with_len 0 (n + 1))
mapped_more f n old new x so_far is pushed =
    pushed ∙ ap (λ l. l ++ x ∷ []) so_far ∙ ap (λ y. map f (range_with_len 0 n) ++ y ∷ []) is ∙ sym (map-range_with_len_more f 0 n n (omega arith))

pub flat_more : {A : Type 0} (f : ℕ → Symbol) (g : Symbol → List A) (n : ℕ) (old new : List A) (x : Symbol)
    → old ≡ flat_map g (map f (range_with_len 0 n)) → x ≡ f n → new ≡ old ++ g x → new ≡ flat_map g (map f (range_with_len 0 (n + 1)))
flat_more f g n old new x so_far is pushed =
    pushed ∙ ap (λ l. l ++ g x) so_far ∙ ap (λ y. flat_map g (map f (range_with_len 0 n)) ++ g y) is
    ∙ sym (ap (flat_map g) (map-range_with_len_more f 0 n n (omega arith)) ∙ flat_map-push g (map f (range_with_len 0 n)) (f n))

-- ---- what is found

pub found_passes : {A : Type 0} (p : A → Bool) (xs : List A) (x : A) → find p xs ≡ Some x → p x ≡ true
found_passes p [] x h = absurd (none-some x h)
found_passes p (y ∷ xs) x h =
    elim (p y) as (λ b. p y ≡ b → cond b (Some y) (find p xs) ≡ Some x → p x ≡ true) [
      | true ↦ λ is e. ap p (sym (same_Some y x e)) ∙ is
      | false ↦ λ is e. found_passes p xs x e
    ] refl h
