-- A group's range has exactly the places of that group; joined starts; counts of starts.
use Rattle.std.proofs.Common.{◌≡◌, ℕ, zero, suc, ◌+◌, ◌-◌, ◌*◌, ◌/◌, ◌%◌, ◌<◌, ◌≤◌, Bool, true, false, List, [], ◌∷◌, length, arith, refl, ap, sym, subst, ◌∙◌, Some, None}
use Rattle.std.specs.Prelude.{◌==◌, ◌&&◌, ◌||◌, All, Contains, nat_le, nat_lt, if◌then◌else◌, slice_index, slice_index_or, count_by, filter, Result, Ok, Err, is_ok}
use Rattle.std.specs.List.{list_any}
use Rattle.std.specs.List.Sorted.{IsBinarySearchResult, IsPartitionPoint, IsNonDecreasingBy}
use Rattle.std.specs.Ordering.{nat_cmp}
use Rattle.std.proofs.lemmas.List.Sorted.{searched}
use borrow.Author.Tests.{leb-true, leb-false}
use Rattle.std.proofs.lemmas.Grind.{common_steps}
use Rattle.std.proofs.lemmas.Bool.Decides.{nat_tests}
use Rattle.std.proofs.lemmas.List.Elements.{All-contains, All-contains_itself, All-filter}
use Rattle.std.proofs.lemmas.List.{get_or-map, get_or_past, length-map}
use Rattle.std.proofs.lemmas.List.Sums.{count_by-le-length}
use Rattle.fc_numbers.specs.declared.places.Span.{Span}
use Rattle.fc_numbers.specs.declared.places.TheConstants.{RAM_START}
use Rattle.fc_numbers.specs.Spans.{AreRangesFrom, end_in, holds, offset_in, place_in, size_of, text_size}
use Rattle.fc_numbers.specs.Spans as spans
use Rattle.fc_numbers.proofs.TextLaws.{end_near, offset_below, offset_page, offset_place, place_inside, place_near, place_offset, size_pages}
use Rattle.guest_input.specs.declared.image.Image.{Image}
use Rattle.guest_input.specs.declared.image.Function.{Function}
use Rattle.guest_input.specs.declared.image.Start.{Start}
use Rattle.guest_input.specs.Text.{IsStartIn, bytes_before, bytes_of, flat_of, no_span, spans_of}
use Rattle.guest_input.specs.Accepted.{IsAscendingFrom, IsStarts, IsImage, starts_of}
use Rattle.function_table.specs.Groups.{Groups, IsRangeOf, IsGroups, group_in, group_at, groups_of, groups_count, range_of, first_of, last_of, in_groups_text, is_between, is_closed, begins_range, has_start, half_of, function_in}
use Rattle.lane_kernels.specs.Kernels.{is_open}

-- where group g begins and ends, the first one at `low`
abbrev begin_at : ℕ → List ℕ → ℕ → ℕ
begin_at low starts g = slice_index (low ∷ starts) g

abbrev end_at : List ℕ → ℕ → ℕ → ℕ
end_at starts size g = slice_index_or starts g size

-- one more start in a count
group_in-cons : (b offset : ℕ) (bs : List ℕ) → group_in (b ∷ bs) offset ≡ (if nat_le b offset then 1 else 0) + group_in bs offset
group_in-cons b offset bs = grind (arith, common_steps)

-- no group begins at an offset below all
group_in-low : (low offset size : ℕ) (bs : List ℕ) → IsAscendingFrom low bs size → offset ≤ low → group_in bs offset ≡ 0
group_in-low low offset size [] up below = refl
group_in-low low offset size (b ∷ bs) up below =
    let rest : group_in bs offset ≡ 0 = group_in-low b offset size bs up.2 (omega arith) in
    grind (arith, nat_tests, rest)

pub ascending-size : (low size : ℕ) (bs : List ℕ) → IsAscendingFrom low bs size → low < size
ascending-size low size [] up = up
ascending-size low size (b ∷ bs) up = let rest : b < size = ascending-size b size bs up.2 in omega arith

begin_at-low : (low size g : ℕ) (bs : List ℕ) → IsAscendingFrom low bs size → g ≤ length bs → low ≤ begin_at low bs g
begin_at-low low size zero bs up within = omega arith
begin_at-low low size (suc g) [] up within = absurd (omega arith)
begin_at-low low size (suc g) (b ∷ bs) up within =
    let rest : b ≤ begin_at b bs g = begin_at-low b size g bs up.2 (omega arith) in omega arith

range-group : (low offset size g : ℕ) (bs : List ℕ) → IsAscendingFrom low bs size → low ≤ offset → offset < size → g ≤ length bs
    → is_between (begin_at low bs g) (end_at bs size g) offset ≡ (group_in bs offset == g)
range-group low offset size zero [] up from to within = grind (arith, nat_tests)
range-group low offset size (suc g) [] up from to within = absurd (omega arith)
range-group low offset size zero (b ∷ bs) up from to within =
    let none : offset ≤ b → group_in bs offset ≡ 0 = λ below. group_in-low b offset size bs up.2 below in
    rw (group_in-cons b offset bs) (grind (arith, nat_tests, none))
range-group low offset size (suc g) (b ∷ bs) up from to within =
    let opened : group_in (b ∷ bs) offset ≡ (if nat_le b offset then 1 else 0) + group_in bs offset = group_in-cons b offset bs in
    let none : offset ≤ b → group_in bs offset ≡ 0 = λ below. group_in-low b offset size bs up.2 below in
    let above : b ≤ begin_at b bs g = begin_at-low b size g bs up.2 (omega arith) in
    let rest : b ≤ offset → is_between (begin_at b bs g) (end_at bs size g) offset ≡ (group_in bs offset == g) =
    λ over. range-group b offset size g bs up.2 over to (omega arith) in
    grind (arith, nat_tests, opened, none, above, rest)

begin_at-end_at : (low size g : ℕ) (bs : List ℕ) → IsAscendingFrom low bs size → g ≤ length bs → begin_at low bs g < end_at bs size g
begin_at-end_at low size zero [] up within = up
begin_at-end_at low size (suc g) [] up within = absurd (omega arith)
begin_at-end_at low size zero (b ∷ bs) up within = up.0
begin_at-end_at low size (suc g) (b ∷ bs) up within = begin_at-end_at b size g bs up.2 (omega arith)

begin_at-even : (low size g : ℕ) (bs : List ℕ) → IsAscendingFrom low bs size → low % 2 ≡ 0 → g ≤ length bs → begin_at low bs g % 2 ≡ 0
begin_at-even low size zero bs up even within = even
begin_at-even low size (suc g) [] up even within = absurd (omega arith)
begin_at-even low size (suc g) (b ∷ bs) up even within = begin_at-even b size g bs up.2 up.1 (omega arith)

end_at-even : (low size g : ℕ) (bs : List ℕ) → IsAscendingFrom low bs size → size % 2 ≡ 0 → end_at bs size g % 2 ≡ 0
end_at-even low size g [] up even = even
end_at-even low size zero (b ∷ bs) up even = up.1
end_at-even low size (suc g) (b ∷ bs) up even = end_at-even b size g bs up.2 even

end_at-high : (low size g : ℕ) (bs : List ℕ) → IsAscendingFrom low bs size → end_at bs size g ≤ size
end_at-high low size g [] up = omega arith
end_at-high low size zero (b ∷ bs) up = let rest : b < size = ascending-size b size bs up.2 in omega arith
end_at-high low size (suc g) (b ∷ bs) up = end_at-high b size g bs up.2

-- the starts of groups stand in order
ascending-above : (low size : ℕ) (xs : List ℕ) → IsAscendingFrom low xs size → (j d : ℕ) → j < length xs → low ≤ slice_index_or xs j d
ascending-above low size [] up j d within = absurd (omega arith)
ascending-above low size (x ∷ xs) up zero d within = omega (arith, up.0)
ascending-above low size (x ∷ xs) up (suc j) d within =
    let rest : x ≤ slice_index_or xs j d = ascending-above x size xs up.2 j d (omega arith) in omega (arith, rest, up.0)

-- no start stands inside a group
start-outside : (low size g x : ℕ) (bs : List ℕ) → IsAscendingFrom low bs size → g ≤ length bs → (k : ℕ) → k < length bs → slice_index_or bs k x ≡ x
    → begin_at low bs g < x → end_at bs size g ≤ x
start-outside low size g x [] up within k inside is above = absurd (omega arith)
start-outside low size zero x (b ∷ bs) up within zero inside is above = omega (arith, is)
start-outside low size zero x (b ∷ bs) up within (suc k) inside is above =
    let rest : b ≤ slice_index_or bs k x = ascending-above b size bs up.2 k x (omega arith) in omega (arith, rest, is)
start-outside low size (suc g) x (b ∷ bs) up within zero inside is above =
    let rest : b ≤ begin_at b bs g = begin_at-low b size g bs up.2 (omega arith) in absurd (omega (arith, rest, is, above))
start-outside low size (suc g) x (b ∷ bs) up within (suc k) inside is above =
    start-outside b size g x bs up.2 (omega arith) k (omega arith) is above

-- no range begins inside a range
pub begins-inside : (ss : List Span) (o p : ℕ) → o < p → p < end_in ss o → begins_range ss p ≡ false
begins-inside [] o p below within = refl
begins-inside (s ∷ ss) o p below within =
    elim (nat_lt o (size_of s)) as (λ b. nat_lt o (size_of s) ≡ b → p < (if b then size_of s else size_of s + end_in ss (o - size_of s)) → begins_range (s ∷ ss) p ≡ false) [
      | true ↦ λ t z. grind (arith, nat_tests, below, z)
      | false ↦ λ t z.
          let over : size_of s ≤ o = grind (arith, nat_tests, t) in
          let rest : begins_range ss (p - size_of s) ≡ false = begins-inside ss (o - size_of s) (p - size_of s) (omega (arith, below, over)) (omega (arith, z, over, below)) in
          grind (arith, nat_tests, rest, below)
    ] refl within

begins-zero : (ss : List Span) → 0 < text_size ss → begins_range ss 0 ≡ true
begins-zero [] some = absurd (omega arith)
begins-zero (s ∷ ss) some = refl

begins-next : (s : Span) (ss : List Span) (o : ℕ) → begins_range ss o ≡ true → begins_range (s ∷ ss) (size_of s + o) ≡ true
begins-next s ss o here =
    let same : size_of s + o - size_of s ≡ o = omega arith in
    rw same (grind (arith, nat_tests, here))

-- a range begins where another ends that is not the last
end-begins : (ss : List Span) (low o : ℕ) → AreRangesFrom low ss → o < text_size ss → end_in ss o < text_size ss → begins_range ss (end_in ss o) ≡ true
end-begins [] low o k within more = absurd (omega arith)
end-begins (s ∷ ss) low o k within more =
    elim (nat_lt o (size_of s)) as (λ b. nat_lt o (size_of s) ≡ b → (if b then size_of s else size_of s + end_in ss (o - size_of s)) < text_size (s ∷ ss) → begins_range (s ∷ ss) (if b then size_of s else size_of s + end_in ss (o - size_of s)) ≡ true) [
      | true ↦ λ t z.
          let here : begins_range (s ∷ ss) (size_of s + 0) ≡ true = begins-next s ss 0 (begins-zero ss (omega (arith, z))) in
          let same : size_of s + 0 ≡ size_of s = omega arith in
          subst (λ n. begins_range (s ∷ ss) n ≡ true) same here
      | false ↦ λ t z.
          let over : size_of s ≤ o = grind (arith, nat_tests, t) in
          begins-next s ss (end_in ss (o - size_of s)) (end-begins ss (s.end + 4096) (o - size_of s) k.4 (omega (arith, within, over)) (omega (arith, z)))
    ] refl more

-- a range begins behind the bytes of those before it
begins-before : (ss : List Span) (o : ℕ) → begins_range ss o ≡ true → (n : ℕ) × (n < length ss) × (bytes_before ss n ≡ o)
begins-before [] o here = absurd (cc)
begins-before (s ∷ ss) o here =
    elim (o == 0) as (λ b. (o == 0) ≡ b → (b || (nat_le (size_of s) o && begins_range ss (o - size_of s))) ≡ true → (n : ℕ) × (n < suc (length ss)) × (bytes_before (s ∷ ss) n ≡ o)) [
      | true ↦ λ t z. (0, omega arith, grind (arith, nat_tests, t))
      | false ↦ λ t z.
          let over : size_of s ≤ o = grind (arith, nat_tests, z) in
          let rest = begins-before ss (o - size_of s) (and-right (nat_le (size_of s) o) (begins_range ss (o - size_of s)) z) in
          (suc rest.0, omega (arith, rest.1), omega (arith, rest.2, over))
    ] refl here
  where
    and-right : (a b : Bool) → (a && b) ≡ true → b ≡ true
    and-right true b e = e
    and-right false b e = absurd (cc)

-- a group stands in one range
group-range : (t : Groups) (g : ℕ) → IsGroups t → g < groups_count t → last_of t g ≤ end_in t.text (first_of t g)
group-range t g good within =
    let few : g ≤ length t.starts = omega arith in
    let apart : first_of t g < last_of t g = begin_at-end_at 0 (text_size t.text) g t.starts good.starts few in
    let high : last_of t g ≤ text_size t.text = end_at-high 0 (text_size t.text) g t.starts good.starts in
    let inside : first_of t g < text_size t.text = omega (arith, apart, high) in
    let near = end_near t.text RAM_START (first_of t g) good.text.ranges inside in
    elim (nat_lt (end_in t.text (first_of t g)) (text_size t.text)) as (λ b. nat_lt (end_in t.text (first_of t g)) (text_size t.text) ≡ b → last_of t g ≤ end_in t.text (first_of t g)) [
      | true ↦ λ e.
          let less : end_in t.text (first_of t g) < text_size t.text = grind (arith, nat_tests, e) in
          let begins : begins_range t.text (end_in t.text (first_of t g)) ≡ true = end-begins t.text RAM_START (first_of t g) good.text.ranges inside less in
          let head = good.heads (end_in t.text (first_of t g)) (omega (arith, near.0)) begins in
          start-outside 0 (text_size t.text) g (end_in t.text (first_of t g)) t.starts good.starts few head.0 head.1 head.2 near.0
      | false ↦ λ e. grind (arith, nat_tests, e, high)
    ] refl

-- a byte of group g, by its distance from the first
record IsByte (t : Groups) (g place : ℕ) : Type 0 where
  far : ℕ
  short : first_of t g + far < last_of t g
  at : place ≡ (range_of t g).start + far

-- what is known of the ends of group g
record HasEnds (t : Groups) (g : ℕ) : Type 0 where
  few : g ≤ length t.starts
  apart : first_of t g < last_of t g
  high : last_of t g ≤ text_size t.text
  near : last_of t g ≤ end_in t.text (first_of t g)

has-ends : (t : Groups) (g : ℕ) → IsGroups t → g < groups_count t → HasEnds t g
has-ends t g good within =
    let within-starts : g ≤ length t.starts = omega arith in
    record {
      few = within-starts;
      apart = begin_at-end_at 0 (text_size t.text) g t.starts good.starts within-starts;
      high = end_at-high 0 (text_size t.text) g t.starts good.starts;
      near = group-range t g good within;
    }

-- the place of a byte of a group, so far behind the first
byte-place : (t : Groups) (g far : ℕ) → IsGroups t → HasEnds t g → first_of t g + far < last_of t g → place_in t.text (first_of t g + far) ≡ (range_of t g).start + far
byte-place t g far good ends short =
    place_near t.text RAM_START (first_of t g) far good.text.ranges (omega (arith, ends.apart, ends.high)) (omega (arith, short, ends.near))

-- a place of the range of a group is the place of one of its bytes
place-byte : (t : Groups) (g place : ℕ) → HasEnds t g → holds (range_of t g) place ≡ true → IsByte t g place
place-byte t g place ends here =
    let low : (range_of t g).start ≤ place = grind (arith, nat_tests, here) in
    let high : place < (range_of t g).end = grind (arith, nat_tests, here) in
    record {
      far = place - (range_of t g).start;
      short = omega (arith, low, high, ends.apart);
      at = omega (arith, low);
    }

inside-group : (t : Groups) (g place : ℕ) → IsGroups t → HasEnds t g → holds (range_of t g) place ≡ true → in_groups_text t place ≡ true
inside-group t g place good ends here =
    let byte : IsByte t g place = place-byte t g place ends here in
    let is : place_in t.text (first_of t g + byte.far) ≡ place = byte-place t g byte.far good ends byte.short ∙ sym byte.at in
    subst (λ q. spans.in_text t.text q ≡ true) is (place_inside t.text RAM_START (first_of t g + byte.far) good.text.ranges (omega (arith, byte.short, ends.high)))

-- the offset of a place of a group's range is one of the group's
offset-between : (t : Groups) (g place : ℕ) → IsGroups t → HasEnds t g → holds (range_of t g) place ≡ true
    → is_between (first_of t g) (last_of t g) (offset_in t.text place) ≡ true
offset-between t g place good ends here =
    let byte : IsByte t g place = place-byte t g place ends here in
    let is : place_in t.text (first_of t g + byte.far) ≡ place = byte-place t g byte.far good ends byte.short ∙ sym byte.at in
    let offset : offset_in t.text (place_in t.text (first_of t g + byte.far)) ≡ first_of t g + byte.far = offset_place t.text RAM_START (first_of t g + byte.far) good.text.ranges (omega (arith, byte.short, ends.high)) in
    let same : offset_in t.text place ≡ first_of t g + byte.far = subst (λ q. offset_in t.text q ≡ first_of t g + byte.far) is offset in
    rw same (grind (arith, nat_tests, byte.short))

-- a place of text whose offset is one of the group's is of its range
place-between : (t : Groups) (g place : ℕ) → IsGroups t → HasEnds t g → in_groups_text t place ≡ true
    → is_between (first_of t g) (last_of t g) (offset_in t.text place) ≡ true → holds (range_of t g) place ≡ true
place-between t g place good ends inside here =
    let low : first_of t g ≤ offset_in t.text place = grind (arith, nat_tests, here) in
    let high : offset_in t.text place < last_of t g = grind (arith, nat_tests, here) in
    let sum : first_of t g + (offset_in t.text place - first_of t g) ≡ offset_in t.text place = omega (arith, low) in
    let at : place_in t.text (first_of t g + (offset_in t.text place - first_of t g)) ≡ (range_of t g).start + (offset_in t.text place - first_of t g) = byte-place t g (offset_in t.text place - first_of t g) good ends (omega (arith, sum, high)) in
    let back : place_in t.text (offset_in t.text place) ≡ place = place_offset t.text RAM_START place good.text.ranges inside in
    let is : place ≡ (range_of t g).start + (offset_in t.text place - first_of t g) = sym back ∙ ap (λ n. place_in t.text n) (sym sum) ∙ at in
    grind (arith, nat_tests, is, low, high)

same-truth : (a b : Bool) → (a ≡ true → b ≡ true) → (b ≡ true → a ≡ true) → a ≡ b
same-truth true b to from = sym (to refl)
same-truth false true to from = from refl
same-truth false false to from = refl

-- the range of a group has exactly the places of that group
pub range_is : (t : Groups) (g : ℕ) → IsGroups t → g < groups_count t → IsRangeOf t g (range_of t g)
range_is t g good within =
    let ends : HasEnds t g = has-ends t g good within in
    let size : text_size t.text % 4096 ≡ 0 = size_pages t.text RAM_START good.text.ranges in
    let even : text_size t.text % 2 ≡ 0 = omega (arith, size) in
    let even_first : first_of t g % 2 ≡ 0 = begin_at-even 0 (text_size t.text) g t.starts good.starts refl ends.few in
    let even_last : last_of t g % 2 ≡ 0 = end_at-even 0 (text_size t.text) g t.starts good.starts even in
    let inside : first_of t g < text_size t.text = omega (arith, ends.apart, ends.high) in
    let at : offset_in t.text (place_in t.text (first_of t g)) ≡ first_of t g = offset_place t.text RAM_START (first_of t g) good.text.ranges inside in
    let page : offset_in t.text (place_in t.text (first_of t g)) % 4096 ≡ place_in t.text (first_of t g) % 4096 = offset_page t.text RAM_START (place_in t.text (first_of t g)) good.text.ranges (place_inside t.text RAM_START (first_of t g) good.text.ranges inside) in
    let even_start : place_in t.text (first_of t g) % 2 ≡ 0 = omega (arith, page, at, even_first) in
    record {
      some = omega (arith, ends.apart);
      even_start = even_start;
      even_end = omega (arith, even_start, even_first, even_last, ends.apart);
      inside = λ place here. inside-group t g place good ends here;
      each = λ place here.
          same-truth (holds (range_of t g) place) (is_between (first_of t g) (last_of t g) (offset_in t.text place)) (offset-between t g place good ends) (place-between t g place good ends here)
          ∙ range-group 0 (offset_in t.text place) (text_size t.text) g t.starts good.starts (omega arith) (offset_below t.text RAM_START place good.text.ranges here) ends.few;
      bytes = λ offset here.
          let to : first_of t g + (last_of t g - first_of t g) ≡ last_of t g = omega (arith, ends.apart) in
          let size_is : size_of (range_of t g) ≡ last_of t g - first_of t g = omega arith in
          rw (at, size_is, to) (range-group 0 offset (text_size t.text) g t.starts good.starts (omega arith) here ends.few);
    }

pub ends-within : (size g : ℕ) (starts : List ℕ) → IsAscendingFrom 0 starts size → g ≤ length starts
    → (begin_at 0 starts g < end_at starts size g) × (end_at starts size g ≤ size)
ends-within size g starts up within = (begin_at-end_at 0 size g starts up within, end_at-high 0 size g starts up)

-- a range and those before it are of text
pub before-within : (ss : List Span) (n : ℕ) → n < length ss → bytes_before ss n + size_of (slice_index_or ss n no_span) ≤ text_size ss
before-within [] n inside = absurd (omega arith)
before-within (s ∷ ss) zero inside = omega arith
before-within (s ∷ ss) (suc n) inside = omega (arith, before-within ss n (omega arith))

-- the offset of a start is one of text
pub start-below : (text : List Span) (at : Start) → has_start text at ≡ true → flat_of text at < text_size text
start-below text at here =
    let inside : at.offset < size_of (slice_index_or text at.range no_span) = grind (arith, nat_tests, here) in
    elim (nat_lt at.range (length text)) as (λ b. nat_lt at.range (length text) ≡ b → flat_of text at < text_size text) [
      | true ↦ λ e.
          let range : at.range < length text = grind (arith, nat_tests, e) in
          omega (arith, before-within text at.range range, inside)
      | false ↦ λ e.
          let past : length text ≤ at.range = grind (arith, nat_tests, e) in
          let none : slice_index_or text at.range no_span ≡ no_span = get_or_past text at.range no_span past in
          let size : size_of (slice_index_or text at.range no_span) ≡ 0 = ap (λ (s : Span). size_of s) none in
          absurd (omega (arith, size, inside))
    ] refl

pub some-held : (b : Bool) (x y : ℕ) → (if b then Some x else None) ≡ Some y → (b ≡ true) × (x ≡ y)
some-held true x y e = (refl, cc)
some-held false x y e = absurd (cc)

pub none-outside : (b : Bool) (x : ℕ) → b ≡ true → (if b then Some x else None) ≡ None → ⊥
none-outside true x e none = cc
none-outside false x e none = cc

-- each function starts in a range
pub function-inside : (text : List Span) (functions : List Function) (k : ℕ) (d : Function) → All (IsStartIn text) (starts_of functions) → k < length functions
    → has_start text (slice_index_or functions k d).at ≡ true
function-inside text functions k d all inside =
    let here : IsStartIn text (slice_index_or (starts_of functions) k d.at) = all k d.at (simp length-map inside) in
    let same : slice_index_or (starts_of functions) k d.at ≡ (slice_index_or functions k d).at = get_or-map (λ (f : Function). f.at) functions k d d.at inside in
    let start : IsStartIn text (slice_index_or functions k d).at = subst (IsStartIn text) same here in
    grind (arith, nat_tests, start.inside)

-- the group of a place is one of the groups
pub group-below : (t : Groups) (place : ℕ) → group_at t place < groups_count t
group-below t place = omega (arith, count_by-le-length (λ start. nat_le start (offset_in t.text place)) t.starts)

-- a test that keeps some of the starts keeps their order
lower : (low x size : ℕ) (xs : List ℕ) → low ≤ x → IsAscendingFrom x xs size → IsAscendingFrom low xs size
lower low x size [] below up = omega arith
lower low x size (y ∷ ys) below up = (omega (arith, up.0), up.1, up.2)

pub ascending-filter : (p : ℕ → Bool) (low size : ℕ) (xs : List ℕ) → IsAscendingFrom low xs size → IsAscendingFrom low (filter p xs) size
ascending-filter p low size [] up = up
ascending-filter p low size (x ∷ xs) up =
    let rest : IsAscendingFrom x (filter p xs) size = ascending-filter p x size xs up.2 in
    elim (p x) as (λ b. IsAscendingFrom low (if b then x ∷ filter p xs else filter p xs) size) [
      | true ↦ (up.0, up.1, rest)
      | false ↦ lower low x size (filter p xs) (omega (arith, up.0)) rest
    ]

pub length-filter-le : (p : ℕ → Bool) (xs : List ℕ) → length (filter p xs) ≤ length xs
length-filter-le p [] = omega arith
length-filter-le p (x ∷ xs) =
    let rest : length (filter p xs) ≤ length xs = length-filter-le p xs in
    elim (p x) as (λ b. length (if b then x ∷ filter p xs else filter p xs) ≤ suc (length xs)) [ true ↦ omega arith | false ↦ omega arith ]

-- a test that all members pass keeps them
filter-keeps : (p : ℕ → Bool) (xs : List ℕ) (x k : ℕ) → k < length xs → slice_index_or xs k x ≡ x → p x ≡ true → Contains (filter p xs) x
filter-keeps p [] x k inside is passes = absurd (omega arith)
filter-keeps p (y ∷ ys) x zero inside is passes =
    let kept : p y ≡ true = subst (λ z. p z ≡ true) (sym is) passes in
    rw kept (0, omega arith, is)
filter-keeps p (y ∷ ys) x (suc k) inside is passes =
    let rest = filter-keeps p ys x k (omega arith) is passes in
    elim (p y) as (λ b. Contains (if b then y ∷ filter p ys else filter p ys) x) [
      | true ↦ (suc rest.0, omega (arith, rest.1), rest.2)
      | false ↦ rest
    ]

filter-members : (p : ℕ → Bool) (xs : List ℕ) (x : ℕ) → Contains (filter p xs) x → Contains xs x
filter-members p xs x kept = All-contains (Contains xs) (filter p xs) x (All-filter p (Contains xs) xs (All-contains_itself xs)) kept

-- of an accepted image's functions the closed ones, which leave out the first
starts-closed : (text : List Span) (bytes functions : List ℕ) (size : ℕ) → IsStarts functions size
    → IsAscendingFrom 0 (filter (is_closed text bytes) functions) size
starts-closed text bytes [] size good = absurd good
starts-closed text bytes (x ∷ xs) size good = rw good.0 (ascending-filter (is_closed text bytes) 0 size xs good.1)

starts-fewer : (text : List Span) (bytes functions : List ℕ) (size : ℕ) → IsStarts functions size
    → length (filter (is_closed text bytes) functions) < length functions
starts-fewer text bytes [] size good = absurd good
starts-fewer text bytes (x ∷ xs) size good =
    let rest : length (filter (is_closed text bytes) xs) ≤ length xs = length-filter-le (is_closed text bytes) xs in
    rw good.0 (omega arith)

-- a group begins where a range does
heads-closed : (i : Image) → IsImage i → (offset : ℕ) → 0 < offset → begins_range (spans_of i.ranges) offset ≡ true → Contains (groups_of i).starts offset
heads-closed i image offset above here =
    let before = begins-before (spans_of i.ranges) offset here in
    let count : length (spans_of i.ranges) ≡ length i.ranges = grind (arith, common_steps) in
    let head = image.heads before.0 (omega (arith, before.1, count)) in
    let found : Contains (groups_of i).functions offset = subst (λ n. Contains (groups_of i).functions n) before.2 head in
    let closed : is_closed (spans_of i.ranges) (bytes_of i.ranges) offset ≡ true = grind (arith, nat_tests, above, here) in
    filter-keeps (is_closed (spans_of i.ranges) (bytes_of i.ranges)) (groups_of i).functions offset found.0 found.1 found.2 closed

-- what holds of the groups of an accepted image
pub groups-good : (i : Image) → IsImage i → IsGroups (groups_of i)
groups-good i image =
    let same : length (groups_of i).functions ≡ length i.functions = grind (arith, common_steps) in
    let fewer : length (groups_of i).starts < length (groups_of i).functions = starts-fewer (spans_of i.ranges) (bytes_of i.ranges) (groups_of i).functions (text_size (spans_of i.ranges)) image.starts in
    record {
      text = image.text.below;
      functions = image.starts;
      starts = starts-closed (spans_of i.ranges) (bytes_of i.ranges) (groups_of i).functions (text_size (spans_of i.ranges)) image.starts;
      heads = heads-closed i image;
      members = filter-members (is_closed (spans_of i.ranges) (bytes_of i.ranges)) (groups_of i).functions;
      few = omega (arith, same, image.few);
      fewer = omega (arith, fewer, same, image.few);
    }

-- no closed start stands behind an open halfword of its range
closed-elsewhere : (text : List Span) (bytes : List ℕ) (x n : ℕ) → is_closed text bytes x ≡ true → is_open (half_of bytes n) ≡ true
    → 2 * (n + 1) < end_in text (2 * n) → x ≡ 2 * (n + 1) → ⊥
closed-elsewhere text bytes x n closed wide more at =
    let before : x / 2 - 1 ≡ n = omega arith in
    let inside : begins_range text x ≡ false = begins-inside text (2 * n) x (omega (arith, at)) (omega (arith, at, more)) in
    let closed' = rw (before, wide, inside) at closed in
    grind (arith, nat_tests)

joined-in : (text : List Span) (bytes : List ℕ) (low size n : ℕ) (xs : List ℕ) → IsAscendingFrom low xs size → is_open (half_of bytes n) ≡ true
    → 2 * (n + 1) < end_in text (2 * n)
    → group_in (filter (is_closed text bytes) xs) (2 * (n + 1)) ≡ group_in (filter (is_closed text bytes) xs) (2 * n)
joined-in text bytes low size n [] up wide more = refl
joined-in text bytes low size n (x ∷ xs) up wide more =
    let rest : group_in (filter (is_closed text bytes) xs) (2 * (n + 1)) ≡ group_in (filter (is_closed text bytes) xs) (2 * n) = joined-in text bytes x size n xs up.2 wide more in
    elim (is_closed text bytes x) as (λ b. is_closed text bytes x ≡ b → group_in (if b then x ∷ filter (is_closed text bytes) xs else filter (is_closed text bytes) xs) (2 * (n + 1)) ≡ group_in (if b then x ∷ filter (is_closed text bytes) xs else filter (is_closed text bytes) xs) (2 * n)) [
      | true ↦ λ closed.
          let other : x ≡ 2 * (n + 1) → ⊥ = closed-elsewhere text bytes x n closed wide more in
          let even : x % 2 ≡ 0 = up.1 in
          rw (group_in-cons x (2 * (n + 1)) (filter (is_closed text bytes) xs), group_in-cons x (2 * n) (filter (is_closed text bytes) xs), rest) (grind (arith, nat_tests, other, even))
      | false ↦ λ _. rest
    ] refl

-- the two halves of a longer instruction of one range are in one group
pub joined : (i : Image) (n : ℕ) → IsImage i → 2 * (n + 1) < end_in (spans_of i.ranges) (2 * n) → half_of (bytes_of i.ranges) n % 4 ≡ 3
    → group_in (groups_of i).starts (2 * (n + 1)) ≡ group_in (groups_of i).starts (2 * n)
joined i n image more wide =
    joined-starts (groups_of i).functions image.starts where
      is : is_open (half_of (bytes_of i.ranges) n) ≡ true
      is = grind (arith, nat_tests)

      joined-starts : (functions : List ℕ) → IsStarts functions (text_size (spans_of i.ranges))
          → group_in (filter (is_closed (spans_of i.ranges) (bytes_of i.ranges)) functions) (2 * (n + 1)) ≡ group_in (filter (is_closed (spans_of i.ranges) (bytes_of i.ranges)) functions) (2 * n)
      joined-starts [] good = absurd good
      joined-starts (x ∷ xs) good = rw good.0 (joined-in (spans_of i.ranges) (bytes_of i.ranges) 0 (text_size (spans_of i.ranges)) n xs good.1 is more)

-- ascending starts do not decrease, as a binary search asks
pub ascending-sorted : (low size : ℕ) (xs : List ℕ) → IsAscendingFrom low xs size → IsNonDecreasingBy (λ x. x) xs
ascending-sorted low size [] up i j d below within = absurd (omega arith)
ascending-sorted low size (x ∷ xs) up zero zero d below within = omega arith
ascending-sorted low size (x ∷ xs) up zero (suc j) d below within = ascending-above x size xs up.2 j d (omega arith)
ascending-sorted low size (x ∷ xs) up (suc i) zero d below within = absurd (omega arith)
ascending-sorted low size (x ∷ xs) up (suc i) (suc j) d below within = ascending-sorted x size xs up.2 i j d (omega arith) (omega arith)

pub starts-sorted : (size : ℕ) (xs : List ℕ) → IsStarts xs size → IsNonDecreasingBy (λ x. x) xs
starts-sorted size [] good i j d below within = absurd good
starts-sorted size (x ∷ xs) good zero zero d below within = omega arith
starts-sorted size (x ∷ xs) good zero (suc j) d below within =
    let rest : 0 ≤ slice_index_or xs j d = omega arith in rw good.0 rest
starts-sorted size (x ∷ xs) good (suc i) zero d below within = absurd (omega arith)
starts-sorted size (x ∷ xs) good (suc i) (suc j) d below within = ascending-sorted 0 size xs good.1 i j d (omega arith) (omega arith)

pub ascending-within : (low size : ℕ) (xs : List ℕ) → IsAscendingFrom low xs size → (k d : ℕ) → k < length xs → slice_index_or xs k d ≤ size
ascending-within low size [] up k d within = absurd (omega arith)
ascending-within low size (x ∷ xs) up zero d within = let last : x < size = ascending-size x size xs up.2 in omega arith
ascending-within low size (x ∷ xs) up (suc k) d within = ascending-within x size xs up.2 k d (omega arith)

count_by-cons : (p : ℕ → Bool) (x : ℕ) (xs : List ℕ) → count_by p (x ∷ xs) ≡ (if p x then 1 else 0) + count_by p xs
count_by-cons p x xs = grind (arith, common_steps)

-- the place where a test turns false is the number of those that pass
pub parted-count : (p : ℕ → Bool) (xs : List ℕ) (i : ℕ) → i ≤ length xs → IsPartitionPoint (λ y. p y ≡ true) (λ y. p y ≡ false) xs i → count_by p xs ≡ i
parted-count p [] zero within parted = refl
parted-count p [] (suc i) within parted = absurd (omega arith)
parted-count p (x ∷ xs) zero within parted =
    let head : p x ≡ false = parted.1 0 0 (omega arith) (omega arith) in
    let rest : count_by p xs ≡ 0 = parted-count p xs zero (omega arith) ((λ k d low high. absurd (omega arith)), (λ k d low high. parted.1 (suc k) d (omega arith) (omega arith))) in
    rw (count_by-cons p x xs, head) (omega (arith, rest))
parted-count p (x ∷ xs) (suc i) within parted =
    let head : p x ≡ true = parted.0 0 0 (omega arith) (omega arith) in
    let rest : count_by p xs ≡ i = parted-count p xs i (omega arith) ((λ k d low high. parted.0 (suc k) d (omega arith) (omega arith)), (λ k d low high. parted.1 (suc k) d (omega arith) (omega arith))) in
    rw (count_by-cons p x xs, head) (omega (arith, rest))

-- the first function starts at 0, so that one holds each offset
pub function-some : (functions : List ℕ) (size offset : ℕ) → IsStarts functions size → 0 < group_in functions offset
function-some [] size offset good = absurd good
function-some (x ∷ xs) size offset good = rw group_in-cons (grind (arith, nat_tests, good.0))

pub function-below : (functions : List ℕ) (size offset : ℕ) → IsStarts functions size → function_in functions offset < length functions
function-below functions size offset good =
    omega (arith, function-some functions size offset good, count_by-le-length (λ start. nat_le start offset) functions)

starts-below : (x offset size : ℕ) (xs : List ℕ) → IsAscendingFrom x xs size → x ≤ offset → slice_index (x ∷ xs) (group_in xs offset) ≤ offset
starts-below x offset size [] up below = below
starts-below x offset size (y ∷ ys) up below =
    let none : offset ≤ y → group_in ys offset ≡ 0 = λ under. group_in-low y offset size ys up.2 under in
    let rest : y ≤ offset → slice_index (y ∷ ys) (group_in ys offset) ≤ offset = λ under. starts-below y offset size ys up.2 under in
    let more : 1 + group_in ys offset ≡ suc (group_in ys offset) = omega arith in
    rw group_in-cons (elim (nat_le y offset) as (λ b. nat_le y offset ≡ b → slice_index (x ∷ y ∷ ys) ((if b then 1 else 0) + group_in ys offset) ≤ offset) [
      | true ↦ λ is. rw more (rest (leb-true y offset is))
      | false ↦ λ is. rw (none (omega (arith, leb-false y offset is))) below
    ] refl)

-- the function that holds an offset starts at it or below
pub function-starts : (functions : List ℕ) (size offset : ℕ) → IsStarts functions size → slice_index functions (function_in functions offset) ≤ offset
function-starts [] size offset good = absurd good
function-starts (x ∷ xs) size offset good =
    let start : x ≤ offset = omega (arith, good.0) in
    let up : IsAscendingFrom x xs size = rw good.0 good.1 in
    let counted : group_in (x ∷ xs) offset ≡ 1 + group_in xs offset = rw (group_in-cons x offset xs) (grind (arith, nat_tests)) in
    let index : function_in (x ∷ xs) offset ≡ group_in xs offset = omega (arith, counted) in
    rw index (starts-below x offset size xs up start)

found-any : (xs : List ℕ) (x k : ℕ) → k < length xs → slice_index_or xs k 0 ≡ x → list_any (λ y. y == x) xs ≡ true
found-any [] x k within is = absurd (omega arith)
found-any (y ∷ ys) x zero within is = grind (arith, nat_tests, is)
found-any (y ∷ ys) x (suc k) within is =
    let rest : list_any (λ z. z == x) ys ≡ true = found-any ys x k (omega arith) is in grind (arith, nat_tests, rest)

apart-any : (xs : List ℕ) (x : ℕ) → ((k : ℕ) → k < length xs → slice_index_or xs k 0 ≡ x → ⊥) → list_any (λ y. y == x) xs ≡ false
apart-any [] x apart = refl
apart-any (y ∷ ys) x apart =
    let rest : list_any (λ z. z == x) ys ≡ false = apart-any ys x (λ k within is. apart (suc k) (omega arith) is) in
    let head : y ≡ x → ⊥ = λ is. apart 0 (omega arith) is in
    grind (arith, nat_tests, rest, head)

-- a binary search finds a number exactly where it is there
pub searched-any : (xs : List ℕ) (x : ℕ) (r : Result ℕ ℕ) → IsNonDecreasingBy (λ y. y) xs → IsBinarySearchResult (λ y. nat_cmp y x) xs r → is_ok r ≡ list_any (λ y. y == x) xs
searched-any xs x (Ok i) up answer =
    let found = searched xs x (Ok i) answer (λ j k below within. up j k 0 below within) in
    sym (found-any xs x i found.0 found.1)
searched-any xs x (Err i) up answer =
    let found = searched xs x (Err i) answer (λ j k below within. up j k 0 below within) in
    sym (apart-any xs x (λ k within is. elim (nat_lt k i) as (λ b. nat_lt k i ≡ b → ⊥) [
      | true ↦ λ t. let low : slice_index_or xs k 0 < x = found.1 k (grind (arith, nat_tests, t)) in omega (arith, low, is)
      | false ↦ λ t. let high : x < slice_index_or xs k 0 = found.2 k (grind (arith, nat_tests, t)) within in omega (arith, high, is)
    ] refl))
