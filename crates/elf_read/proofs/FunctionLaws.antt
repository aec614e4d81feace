-- The functions of text start where they may: at even offsets that rise, and at the first byte of each range.
use Rattle.std.proofs.Common.{◌≡◌, ℕ, zero, suc, ◌+◌, ◌-◌, ◌%◌, ◌<◌, ◌≤◌, ◌==◌, Bool, true, false, cond, ◌&&◌, ◌||◌, List, [], ◌∷◌, ◌++◌, length, map, take, fold, unwrap_or, Option, Some, None, refl, sym, ap, ◌∙◌, subst, arith, append_assoc, length-append}
use Rattle.std.specs.Prelude.{All, Contains, slice_index_or}
use Rattle.std.specs.List.{filter, list_any}
use Rattle.std.proofs.lemmas.List.{map-append}
use Rattle.std.proofs.lemmas.List.Elements.{Contains-append_left, Contains-append_right}
use Rattle.std.proofs.lemmas.Option.{none-some}
use Rattle.std.proofs.lemmas.Bool.Decides.{nat_tests}
use Rattle.std.proofs.Math.Seq.{take-append_seam, get_or-append_seam}
use Rattle.fc_numbers.specs.declared.places.Span.{Span}
use Rattle.fc_numbers.specs.Spans.{size_of, holds, in_text, text_size, AreRangesFrom}
use Rattle.guest_input.specs.declared.image.Start.{Start}
use Rattle.guest_input.specs.declared.image.Function.{Function}
use Rattle.guest_input.specs.Text.{IsStartIn, bytes_before, flat_of, no_span}
use Rattle.guest_input.specs.Accepted.{starts_of, offsets_of, IsAscendingFrom, IsStarts}
use Rattle.elf_read.specs.declared.laid.NamedPlace.{NamedPlace}
use Rattle.elf_read.specs.Kernel.{is_odd_in}
use Rattle.elf_read.specs.Starts.{starts_in, least_at, lesser, name_at, head_name, and_then_listed, functions_from, functions_of, functions_in}
use Rattle.elf_read.proofs.Passing.{neither, or-true, eqb_true, eqb_false}

-- what is known of a range of text
pub range_some : (low : ℕ) (ss : List Span) (i : ℕ) (s : Span) → AreRangesFrom low ss → i < length ss → s ≡ slice_index_or ss i s → (0 < size_of s) × (size_of s ≤ text_size ss)
range_some low [] i s k within is = absurd (omega (arith, within))
range_some low (x ∷ ss) zero s k within is =
    let start : s.start ≡ x.start = ap (λ (s : Span). s.start) is in
    let end : s.end ≡ x.end = ap (λ (s : Span). s.end) is in
    (omega (arith, start, end, k.1), omega (arith, start, end))
range_some low (x ∷ ss) (suc i) s k within is =
    let rest = range_some (x.end + 4096) ss i s k.4 (omega (arith, within)) is in
    (rest.0, omega (arith, rest.1))

-- ---- no function starts at an odd offset

has_odd : List (ℕ × List ℕ) → Bool
has_odd starts = list_any (λ s. s.0 % 2 == 1) starts

differs : (a q : ℕ) → (a % 2 == 1) ≡ false → (q % 2 ≡ 0 → ⊥) → (a == q) ≡ false
differs a q even odd = grind (arith, nat_tests)

no_start : (starts : List (ℕ × List ℕ)) (q : ℕ) → has_odd starts ≡ false → (q % 2 ≡ 0 → ⊥) → filter (λ (s : ℕ × List ℕ). s.0 == q) starts ≡ []
unfolding has_odd
no_start [] q even odd = refl
no_start (s ∷ starts) q even odd =
    let split = neither (s.0 % 2 == 1) (has_odd starts) even in
    ap (λ b. cond b (s ∷ filter (λ (s : ℕ × List ℕ). s.0 == q) starts) (filter (λ (s : ℕ × List ℕ). s.0 == q) starts)) (differs s.0 q split.0 odd) ∙ no_start starts q split.1 odd

no_least : (starts : List (ℕ × List ℕ)) (q : ℕ) → has_odd starts ≡ false → (q % 2 ≡ 0 → ⊥) → least_at starts q ≡ None
unfolding least_at
no_least starts q even odd = ap (λ l. fold lesser None (map (λ (s : ℕ × List ℕ). s.1) l)) (no_start starts q even odd)

not_zero : (q : ℕ) → (q % 2 ≡ 0 → ⊥) → (q == 0) ≡ false
not_zero q odd = grind (arith, nat_tests)

no_name : (starts : List (ℕ × List ℕ)) (q : ℕ) → has_odd starts ≡ false → (q % 2 ≡ 0 → ⊥) → name_at starts q ≡ None
unfolding name_at
no_name starts q even odd =
    ap (λ b. cond b (Some (unwrap_or (least_at starts 0) head_name)) (least_at starts q)) (not_zero q odd) ∙ no_least starts q even odd

even_by : (q : ℕ) → ((q % 2 ≡ 0 → ⊥) → ⊥) → q % 2 ≡ 0
even_by q h = elim (q % 2 == 0) as (λ b. (q % 2 == 0) ≡ b → q % 2 ≡ 0) [ true ↦ λ is. eqb_true (q % 2) 0 is | false ↦ λ is. absurd (h (eqb_false (q % 2) 0 is)) ] refl

name_even : (starts : List (ℕ × List ℕ)) (q : ℕ) (name : List ℕ) → has_odd starts ≡ false → name_at starts q ≡ Some name → q % 2 ≡ 0
name_even starts q name even found = even_by q (λ odd. none-some name (sym (no_name starts q even odd) ∙ found))

named_zero : (starts : List (ℕ × List ℕ)) → name_at starts 0 ≡ Some (unwrap_or (least_at starts 0) head_name)
unfolding name_at
named_zero starts = refl

even_offset : (place start : ℕ) → start ≤ place → start % 2 ≡ 0 → (place % 2 == 1) ≡ false → ((place - start) % 2 == 1) ≡ false
even_offset place start low page even = grind (arith, nat_tests)

held_low : (s : Span) (place : ℕ) → holds s place ≡ true → s.start ≤ place
held_low s place h = grind (arith, nat_tests, h)

odd_head : (b : Bool) (s : Span) (f : NamedPlace) (fs : List NamedPlace) → (b ≡ true → ((f.place - s.start) % 2 == 1) ≡ false)
    → has_odd (map (λ f. (f.place - s.start, f.name)) fs) ≡ false → has_odd (map (λ f. (f.place - s.start, f.name)) (cond b (f ∷ fs) fs)) ≡ false
unfolding has_odd
odd_head true s f fs here rest = ap (λ b. b || has_odd (map (λ f. (f.place - s.start, f.name)) fs)) (here refl) ∙ rest
odd_head false s f fs here rest = rest

here_even : (all : List Span) (s : Span) (f : NamedPlace) → s.start % 2 ≡ 0 → ((p : ℕ) → holds s p ≡ true → in_text all p ≡ true)
    → is_odd_in all f ≡ false → holds s f.place ≡ true → ((f.place - s.start) % 2 == 1) ≡ false
here_even all s f page inside even held =
    let place : (f.place % 2 == 1) ≡ false = sym (ap (λ b. b && (f.place % 2 == 1)) (inside f.place held)) ∙ even in
    even_offset f.place s.start (held_low s f.place held) page place

-- the starts in a range of text
starts_even : (all : List Span) (s : Span) (named : List NamedPlace) → s.start % 2 ≡ 0 → ((p : ℕ) → holds s p ≡ true → in_text all p ≡ true)
    → list_any (is_odd_in all) named ≡ false → has_odd (starts_in s named) ≡ false
unfolding starts_in has_odd
starts_even all s [] page inside even = refl
starts_even all s (f ∷ fs) page inside even =
    let split = neither (is_odd_in all f) (list_any (is_odd_in all) fs) even in
    odd_head (holds s f.place) s f (filter (λ f. holds s f.place) fs) (λ held. here_even all s f page inside split.0 held) (starts_even all s fs page inside split.1)

-- ---- offsets rise

ascending_from : (all : List Span) (n : ℕ) (starts : List (ℕ × List ℕ)) (low next k size : ℕ) → has_odd starts ≡ false → bytes_before all n % 2 ≡ 0
    → low < bytes_before all n + next → low < bytes_before all n + size → next + k ≡ size
    → IsAscendingFrom low (offsets_of all (starts_of (functions_from n starts next k))) (bytes_before all n + size)
unfolding functions_from
ascending_from all n starts low next zero size even page less within ends = within
ascending_from all n starts low next (suc k) size even page less within ends =
    elim (name_at starts next) as (λ o. name_at starts next ≡ o → IsAscendingFrom low (offsets_of all (starts_of (and_then_listed n next o (functions_from n starts (next + 1) k)))) (bytes_before all n + size)) [
      | None ↦ λ is. ascending_from all n starts low (next + 1) k size even page (omega (arith, less)) within (omega (arith, ends))
      | Some name ↦ λ is.
          let here : next % 2 ≡ 0 = name_even starts next name even is in
          let both : (bytes_before all n + next) % 2 ≡ 0 = omega (arith, here, page) in
          (less, both, ascending_from all n starts (bytes_before all n + next) (next + 1) k size even page (omega arith) (omega (arith, ends)) (omega (arith, ends)))
    ] refl

append_ascending : (xs ys : List ℕ) (low mid size : ℕ) → IsAscendingFrom low xs mid → ((k : ℕ) → k < mid → IsAscendingFrom k ys size) → IsAscendingFrom low (xs ++ ys) size
append_ascending [] ys low mid size a more = more low a
append_ascending (x ∷ xs) ys low mid size a more = (a.0, a.1, append_ascending xs ys x mid size a.2 more)

append_starts : (xs ys : List ℕ) (mid size : ℕ) → IsStarts xs mid → ((k : ℕ) → k < mid → IsAscendingFrom k ys size) → IsStarts (xs ++ ys) size
append_starts [] ys mid size a more = absurd a
append_starts (x ∷ xs) ys mid size a more = (a.0, append_ascending xs ys 0 mid size a.1 more)

offsets_append : (all : List Span) (xs ys : List Function) → offsets_of all (starts_of (xs ++ ys)) ≡ offsets_of all (starts_of xs) ++ offsets_of all (starts_of ys)
offsets_append all xs ys = ap (map (flat_of all)) (map-append (λ (f : Function). f.at) xs ys) ∙ map-append (flat_of all) (starts_of xs) (starts_of ys)

-- ---- the ranges one after another

text_size-append : (xs ys : List Span) → text_size (xs ++ ys) ≡ text_size xs + text_size ys
text_size-append [] ys = omega arith
text_size-append (x ∷ xs) ys = omega (arith, text_size-append xs ys)

before_of : (all pre ss : List Span) (n : ℕ) → all ≡ pre ++ ss → n ≡ length pre → bytes_before all n ≡ text_size pre
before_of all pre ss n is at = ap (λ xs. text_size (take n xs)) is ∙ ap (λ k. text_size (take k (pre ++ ss))) at ∙ ap text_size (take-append_seam pre ss)

one_more : (all pre ss : List Span) (s : Span) → all ≡ pre ++ s ∷ ss → all ≡ (pre ++ s ∷ []) ++ ss
one_more all pre ss s is = is ∙ sym (append_assoc pre (s ∷ []) ss)

length_more : (pre : List Span) (s : Span) (n : ℕ) → n ≡ length pre → n + 1 ≡ length (pre ++ s ∷ [])
length_more pre s n at = omega (arith, at, length-append pre (s ∷ []))

-- what is known where the functions of the ranges from one on are looked at
record Rest (all pre ss : List Span) (n : ℕ) (named : List NamedPlace) : Type 0 where
  is : all ≡ pre ++ ss
  at : n ≡ length pre
  page : text_size pre % 2 ≡ 0
  low : ℕ
  ranges : AreRangesFrom low ss
  inside : (p : ℕ) → in_text ss p ≡ true → in_text all p ≡ true
  even : list_any (is_odd_in all) named ≡ false

rest_next : (all pre ss : List Span) (s : Span) (n : ℕ) (named : List NamedPlace) → Rest all pre (s ∷ ss) n named → Rest all (pre ++ s ∷ []) ss (n + 1) named
rest_next all pre ss s n named r = record {
  is = one_more all pre ss s r.is;
  at = length_more pre s n r.at;
  page = omega (arith, text_size-append pre (s ∷ []), r.page, r.ranges.1, r.ranges.2, r.ranges.3);
  low = s.end + 4096;
  ranges = r.ranges.4;
  inside = λ p h. r.inside p (ap (λ b. holds s p || b) h ∙ or-true (holds s p));
  even = r.even;
}

held_inside : (all pre ss : List Span) (s : Span) (n : ℕ) (named : List NamedPlace) → Rest all pre (s ∷ ss) n named → (p : ℕ) → holds s p ≡ true → in_text all p ≡ true
held_inside all pre ss s n named r p h = r.inside p (ap (λ b. b || in_text ss p) h)

even_start : (s : ℕ) → s % 4096 ≡ 0 → s % 2 ≡ 0
even_start s page = omega (arith, page)

here_starts : (all pre ss : List Span) (s : Span) (n : ℕ) (named : List NamedPlace) → Rest all pre (s ∷ ss) n named → has_odd (starts_in s named) ≡ false
here_starts all pre ss s n named r = starts_even all s named (even_start s.start r.ranges.2) (held_inside all pre ss s n named r) r.even

some_size : (s : Span) → s.start < s.end → 0 < size_of s
some_size s h = omega (arith, h)

rest_ascends : (all pre ss : List Span) (n low : ℕ) (named : List NamedPlace) → Rest all pre ss n named → low < text_size pre
    → IsAscendingFrom low (offsets_of all (starts_of (functions_in n ss named))) (text_size pre + text_size ss)
rest_ascends all pre [] n low named r less = omega (arith, less)
rest_ascends all pre (s ∷ ss) n low named r less =
    let before = before_of all pre (s ∷ ss) n r.is r.at in
    let page : bytes_before all n % 2 ≡ 0 = ap (λ k. k % 2) before ∙ r.page in
    let here : IsAscendingFrom low (offsets_of all (starts_of (functions_of n s named))) (bytes_before all n + size_of s) =
    ascending_from all n (starts_in s named) low 0 (size_of s) (size_of s) (here_starts all pre ss s n named r) page (omega (arith, less, before)) (omega (arith, less, before)) (omega arith) in
    let sizes : text_size (pre ++ s ∷ []) + text_size ss ≡ text_size pre + text_size (s ∷ ss) = omega (arith, text_size-append pre (s ∷ [])) in
    let more : (k : ℕ) → k < bytes_before all n + size_of s → IsAscendingFrom k (offsets_of all (starts_of (functions_in (n + 1) ss named))) (text_size pre + text_size (s ∷ ss)) =
    λ k h. subst (IsAscendingFrom k (offsets_of all (starts_of (functions_in (n + 1) ss named)))) sizes
    (rest_ascends all (pre ++ s ∷ []) ss (n + 1) k named (rest_next all pre ss s n named r) (omega (arith, h, before, text_size-append pre (s ∷ [])))) in
    subst (λ os. IsAscendingFrom low os (text_size pre + text_size (s ∷ ss))) (sym (offsets_append all (functions_of n s named) (functions_in (n + 1) ss named)))
    (append_ascending (offsets_of all (starts_of (functions_of n s named))) (offsets_of all (starts_of (functions_in (n + 1) ss named))) low (bytes_before all n + size_of s) (text_size pre + text_size (s ∷ ss)) here more)

first_starts : (all : List Span) (starts : List (ℕ × List ℕ)) (size : ℕ) → has_odd starts ≡ false → 0 < size → IsStarts (offsets_of all (starts_of (functions_from 0 starts 0 size))) size
unfolding functions_from
first_starts all starts zero even some = absurd (omega arith)
first_starts all starts (suc n) even some =
    let rest = functions_from 0 starts 1 n in
    let P : Option (List ℕ) → Type 0 = λ o. IsStarts (offsets_of all (starts_of (and_then_listed 0 0 o rest))) (suc n) in
    let size : bytes_before all 0 + suc n ≡ suc n = omega arith in
    let more : IsAscendingFrom 0 (offsets_of all (starts_of rest)) (suc n) = subst (IsAscendingFrom 0 (offsets_of all (starts_of rest))) size (ascending_from all 0 starts 0 1 n (suc n) even refl (omega arith) (omega arith) (omega arith)) in
    subst P (sym (named_zero starts)) (refl, more)

whole_rest : (all : List Span) (low : ℕ) (named : List NamedPlace) → AreRangesFrom low all → list_any (is_odd_in all) named ≡ false → Rest all [] all 0 named
whole_rest all low named k even = record { is = refl; at = refl; page = refl; low = low; ranges = k; inside = λ p h. h; even = even }

pub functions_ascend : (all : List Span) (low : ℕ) (named : List NamedPlace) → AreRangesFrom low all → 0 < length all → list_any (is_odd_in all) named ≡ false
    → IsStarts (offsets_of all (starts_of (functions_in 0 all named))) (text_size all)
functions_ascend [] low named k some even = absurd (omega arith)
functions_ascend (s ∷ ss) low named k some even =
    let all : List Span = s ∷ ss in
    let r = whole_rest all low named k even in
    let here = first_starts all (starts_in s named) (size_of s) (here_starts all [] ss s 0 named r) (some_size s k.1) in
    let next = rest_next all [] ss s 0 named r in
    let sizes : text_size (s ∷ []) + text_size ss ≡ text_size all = omega arith in
    let more : (k : ℕ) → k < size_of s → IsAscendingFrom k (offsets_of all (starts_of (functions_in 1 ss named))) (text_size all) =
    λ k h. subst (IsAscendingFrom k (offsets_of all (starts_of (functions_in 1 ss named)))) sizes (rest_ascends all (s ∷ []) ss 1 k named next (omega (arith, h))) in
    subst (λ os. IsStarts os (text_size all)) (sym (offsets_append all (functions_of 0 s named) (functions_in 1 ss named)))
    (append_starts (offsets_of all (starts_of (functions_of 0 s named))) (offsets_of all (starts_of (functions_in 1 ss named))) (size_of s) (text_size all) here more)

-- ---- one starts at the first byte of each range

head_here : (all : List Span) (n : ℕ) (starts : List (ℕ × List ℕ)) (size : ℕ) → 0 < size
    → Contains (offsets_of all (starts_of (functions_from n starts 0 size))) (bytes_before all n)
unfolding functions_from
head_here all n starts zero some = absurd (omega arith)
head_here all n starts (suc k) some =
    let rest = functions_from n starts 1 k in
    let P : Option (List ℕ) → Type 0 = λ o. Contains (offsets_of all (starts_of (and_then_listed n 0 o rest))) (bytes_before all n) in
    let here : bytes_before all n + 0 ≡ bytes_before all n = omega arith in
    subst P (sym (named_zero starts)) (0, omega arith, here)

rest_heads : (all pre ss : List Span) (n j : ℕ) (named : List NamedPlace) → Rest all pre ss n named → j < length ss
    → Contains (offsets_of all (starts_of (functions_in n ss named))) (bytes_before all (n + j))
rest_heads all pre [] n j named r within = absurd (omega (arith, within))
rest_heads all pre (s ∷ ss) n zero named r within =
    let at : n + 0 ≡ n = omega arith in
    let here = head_here all n (starts_in s named) (size_of s) (some_size s r.ranges.1) in
    subst (λ k. Contains (offsets_of all (starts_of (functions_in n (s ∷ ss) named))) (bytes_before all k)) (sym at)
    (subst (λ os. Contains os (bytes_before all n)) (sym (offsets_append all (functions_of n s named) (functions_in (n + 1) ss named)))
    (Contains-append_left (offsets_of all (starts_of (functions_of n s named))) (offsets_of all (starts_of (functions_in (n + 1) ss named))) (bytes_before all n) here))
rest_heads all pre (s ∷ ss) n (suc j) named r within =
    let at : n + 1 + j ≡ n + suc j = omega arith in
    let more = rest_heads all (pre ++ s ∷ []) ss (n + 1) j named (rest_next all pre ss s n named r) (omega (arith, within)) in
    subst (λ k. Contains (offsets_of all (starts_of (functions_in n (s ∷ ss) named))) (bytes_before all k)) at
    (subst (λ os. Contains os (bytes_before all (n + 1 + j))) (sym (offsets_append all (functions_of n s named) (functions_in (n + 1) ss named)))
    (Contains-append_right (offsets_of all (starts_of (functions_of n s named))) (offsets_of all (starts_of (functions_in (n + 1) ss named))) (bytes_before all (n + 1 + j)) more))

pub functions_heads : (all : List Span) (low n : ℕ) (named : List NamedPlace) → AreRangesFrom low all → list_any (is_odd_in all) named ≡ false → n < length all
    → Contains (offsets_of all (starts_of (functions_in 0 all named))) (bytes_before all n)
functions_heads all low n named k even within =
    let at : 0 + n ≡ n = omega arith in
    subst (λ j. Contains (offsets_of all (starts_of (functions_in 0 all named))) (bytes_before all j)) at (rest_heads all [] all 0 n named (whole_rest all low named k even) within)

-- ---- each starts in its range

abbrev AllIn : List Span → List Function → Type 0
AllIn all [] = Unit {0}
AllIn all (f ∷ fs) = IsStartIn all f.at × AllIn all fs

append_in : (all : List Span) (xs ys : List Function) → AllIn all xs → AllIn all ys → AllIn all (xs ++ ys)
append_in all [] ys a b = b
append_in all (x ∷ xs) ys a b = (a.0, append_in all xs ys a.1 b)

in_from : (all : List Span) (n : ℕ) (starts : List (ℕ × List ℕ)) (next k size : ℕ) → has_odd starts ≡ false → n < length all → size_of (slice_index_or all n no_span) ≡ size
    → next + k ≡ size → AllIn all (functions_from n starts next k)
unfolding functions_from
in_from all n starts next zero size even within is ends = tt
in_from all n starts next (suc k) size even within is ends =
    elim (name_at starts next) as (λ o. name_at starts next ≡ o → AllIn all (and_then_listed n next o (functions_from n starts (next + 1) k))) [
      | None ↦ λ found. in_from all n starts (next + 1) k size even within is (omega (arith, ends))
      | Some name ↦ λ found. (
        record { range = within; inside = omega (arith, is, ends); even = name_even starts next name even found },
        in_from all n starts (next + 1) k size even within is (omega (arith, ends)),
      )
    ] refl

range_at : (all pre ss : List Span) (s : Span) (n : ℕ) → all ≡ pre ++ s ∷ ss → n ≡ length pre → slice_index_or all n no_span ≡ s
range_at all pre ss s n is at = ap (λ xs. slice_index_or xs n no_span) is ∙ ap (λ k. slice_index_or (pre ++ s ∷ ss) k no_span) at ∙ get_or-append_seam pre s ss no_span

within_at : (all pre ss : List Span) (s : Span) (n : ℕ) → all ≡ pre ++ s ∷ ss → n ≡ length pre → n < length all
within_at all pre ss s n is at = omega (arith, ap length is, at, length-append pre (s ∷ ss))

rest_in : (all pre ss : List Span) (n : ℕ) (named : List NamedPlace) → Rest all pre ss n named → AllIn all (functions_in n ss named)
rest_in all pre [] n named r = tt
rest_in all pre (s ∷ ss) n named r =
    append_in all (functions_of n s named) (functions_in (n + 1) ss named)
    (in_from all n (starts_in s named) 0 (size_of s) (size_of s) (here_starts all pre ss s n named r) (within_at all pre ss s n r.is r.at) (ap size_of (range_at all pre ss s n r.is r.at)) (omega arith))
    (rest_in all (pre ++ s ∷ []) ss (n + 1) named (rest_next all pre ss s n named r))

by_index : (all : List Span) (fs : List Function) → AllIn all fs → (k : ℕ) (d : Start) → k < length (starts_of fs) → IsStartIn all (slice_index_or (starts_of fs) k d)
by_index all [] a k d within = absurd (omega (arith, within))
by_index all (f ∷ fs) a zero d within = a.0
by_index all (f ∷ fs) a (suc k) d within = by_index all fs a.1 k d (omega (arith, within))

pub functions_inside : (all : List Span) (low : ℕ) (named : List NamedPlace) → AreRangesFrom low all → list_any (is_odd_in all) named ≡ false
    → All (IsStartIn all) (starts_of (functions_in 0 all named))
functions_inside all low named k even = by_index all (functions_in 0 all named) (rest_in all [] all 0 named (whole_rest all low named k even))
