-- The pages of code, in ranges, are lawful text.
use Rattle.std.proofs.Common.{◌≡◌, ℕ, suc, ◌+◌, ◌-◌, ◌%◌, ◌<◌, ◌≤◌, ◌==◌, nat_le, nat_lt, true, false, ◌||◌, cond, List, [], ◌∷◌, ◌++◌, length, map, take, drop, replicate, refl, sym, ap, ◌∙◌, arith, length-append}
use Rattle.std.specs.Prelude.{flat_map}
use Rattle.std.specs.List.{list_all}
use Rattle.std.proofs.lemmas.List.{length-replicate}
use Rattle.std.proofs.Math.Seq.{take-append_seam, drop-append_seam}
use Rattle.fc_numbers.specs.declared.places.Span.{Span}
use Rattle.fc_numbers.specs.declared.places.TheConstants.{RAM_START, RAM_MOST, PAGE}
use Rattle.fc_numbers.specs.declared.spans.TheConstants.{RANGES_MOST, TEXT_MOST}
use Rattle.fc_numbers.specs.Spans.{size_of, holds, in_text, text_size, AreRangesFrom}
use Rattle.guest_input.specs.Text.{Range, span_of, spans_of, bytes_of, AreRanges}
use Rattle.elf_read.specs.declared.laid.Segment.{Segment}
use Rattle.elf_read.specs.Kernel.{whole_pages, filled, is_some, is_nonempty_code, is_in_ram, is_at_page, in_order, pages_of_segment, are_apart_from, join, joined, text_spans, text_bytes, page_bytes}
use Rattle.elf_read.proofs.Passing.{both, eqb_true, eqb_false, leb_true, ltb_true}
use Rattle.elf_read.proofs.Segments.{in_ram, passes-in_order, length-in_order}

-- ---- two lists of ranges

-- lists that are one behind others of their length
front_same : (a b x y : List ℕ) → length a ≡ length b → a ++ x ≡ b ++ y → (a ≡ b) × (x ≡ y)
front_same a b x y long e = (
  sym (take-append_seam a x) ∙ ap (take (length a)) e ∙ ap (λ n. take n (b ++ y)) long ∙ take-append_seam b y,
  sym (drop-append_seam a x) ∙ ap (drop (length a)) e ∙ ap (λ n. drop n (b ++ y)) long ∙ drop-append_seam b y,
)

abbrev range : ℕ → List ℕ → Range
range base bytes = record { base = base; bytes = bytes }

range_same : (a b : Range) → a.base ≡ b.base → a.bytes ≡ b.bytes → a ≡ b
range_same a b base bytes = ap (λ n. range n a.bytes) base ∙ ap (range b.base) bytes

head_same : {A : Type 0} (x y : A) (xs ys : List A) → x ∷ xs ≡ y ∷ ys → (x ≡ y) × (xs ≡ ys)
head_same x y xs ys e = (cc, cc)

-- the places and the bytes of ranges say which they are
pub ranges_same : (a b : List Range) → spans_of a ≡ spans_of b → bytes_of a ≡ bytes_of b → a ≡ b
ranges_same [] [] spans bytes = refl
ranges_same [] (y ∷ b) spans bytes = absurd cc
ranges_same (x ∷ a) [] spans bytes = absurd cc
ranges_same (x ∷ a) (y ∷ b) spans bytes =
    let split = head_same (span_of x) (span_of y) (spans_of a) (spans_of b) spans in
    let base : x.base ≡ y.base = ap (λ (s : Span). s.start) split.0 in
    let end : x.base + length x.bytes ≡ y.base + length y.bytes = ap (λ (s : Span). s.end) split.0 in
    let long : length x.bytes ≡ length y.bytes = omega (arith, base, end) in
    let parts = front_same x.bytes y.bytes (bytes_of a) (bytes_of b) long bytes in
    ap (λ r. r ∷ a) (range_same x y base parts.0) ∙ ap (λ rs. y ∷ rs) (ranges_same a b split.1 parts.1)

-- ---- pages

-- pages that follow one another from a place on, in the machine's largest RAM
abbrev Follow : ℕ → List Span → Type 0
Follow low [] = Unit {0}
Follow low (s ∷ ss) = (low ≤ s.start) × (s.start < s.end) × (s.start % PAGE ≡ 0) × (s.end % PAGE ≡ 0) × (s.end ≤ RAM_START + RAM_MOST) × Follow s.end ss

more_pages : (place size : ℕ) → 0 < size → place < place + whole_pages size
more_pages place size some = omega arith

pages_whole : (place size : ℕ) → place % PAGE ≡ 0 → (place + whole_pages size) % PAGE ≡ 0
pages_whole place size page = omega arith

pages_high : (place size : ℕ) → place % PAGE ≡ 0 → place + size ≤ RAM_START + RAM_MOST → place + whole_pages size ≤ RAM_START + RAM_MOST
pages_high place size page high = omega arith

pages_follow : (low : ℕ) (ss : List Segment) → list_all is_some ss ≡ true → list_all is_in_ram ss ≡ true → list_all is_at_page ss ≡ true → are_apart_from low ss ≡ true
    → Follow low (map pages_of_segment ss)
pages_follow low [] some inside page apart = tt
pages_follow low (s ∷ ss) some inside page apart =
    let a = both (is_some s) (list_all is_some ss) some in
    let b = both (is_in_ram s) (list_all is_in_ram ss) inside in
    let c = both (is_at_page s) (list_all is_at_page ss) page in
    let d = both (nat_le low s.place) (are_apart_from (s.place + whole_pages s.size) ss) apart in
    let at : s.place % PAGE ≡ 0 = eqb_true (s.place % PAGE) 0 c.0 in (
      leb_true low s.place d.0,
      more_pages s.place s.size (ltb_true 0 s.size a.0),
      at,
      pages_whole s.place s.size at,
      pages_high s.place s.size at (in_ram s b.0).high,
      pages_follow (s.place + whole_pages s.size) ss a.1 b.1 c.1 d.1,
    )

-- ---- ranges

page_apart : (a b : ℕ) → a % PAGE ≡ 0 → b % PAGE ≡ 0 → a ≤ b → (a ≡ b → ⊥) → a + PAGE ≤ b
page_apart a b page page_b order other = omega (arith, page, page_b, order, other)

join_ranges : (low : ℕ) (s : Span) (ss : List Span) → low ≤ s.start → s.start < s.end → s.start % PAGE ≡ 0 → s.end % PAGE ≡ 0 → AreRangesFrom s.end ss → AreRangesFrom low (join s ss)
join_ranges low s [] a b c d k = (a, b, c, d, tt)
join_ranges low s (t ∷ ts) a b c d k =
    elim (s.end == t.start) as (λ x. (s.end == t.start) ≡ x → AreRangesFrom low (cond x (record { start = s.start; end = t.end } ∷ ts) (s ∷ t ∷ ts))) [
      | true ↦ λ is. let more : s.start < t.end = omega (arith, b, k.0, k.1) in (a, more, c, k.3, k.4)
      | false ↦ λ is. (a, b, c, d, (page_apart s.end t.start d k.2 k.0 (eqb_false s.end t.start is), k.1, k.2, k.3, k.4))
    ] refl

joined_ranges : (low : ℕ) (ss : List Span) → Follow low ss → AreRangesFrom low (joined ss)
joined_ranges low [] k = tt
joined_ranges low (s ∷ ss) k = join_ranges low s (joined ss) k.0 k.1 k.2 k.3 (joined_ranges s.end ss k.5)

join_size : (s : Span) (ss : List Span) → s.start < s.end → AreRangesFrom s.end ss → text_size (join s ss) ≡ size_of s + text_size ss
join_size s [] some k = refl
join_size s (t ∷ ts) some k =
    elim (s.end == t.start) as (λ x. (s.end == t.start) ≡ x → text_size (cond x (record { start = s.start; end = t.end } ∷ ts) (s ∷ t ∷ ts)) ≡ size_of s + text_size (t ∷ ts)) [
      | true ↦ λ is. let same = eqb_true s.end t.start is in omega (arith, same, some, k.1)
      | false ↦ λ is. refl
    ] refl

joined_size : (low : ℕ) (ss : List Span) → Follow low ss → text_size (joined ss) ≡ text_size ss
joined_size low [] k = refl
joined_size low (s ∷ ss) k = join_size s (joined ss) k.1 (joined_ranges s.end ss k.5) ∙ ap (λ n. size_of s + n) (joined_size s.end ss k.5)

join_few : (s : Span) (ss : List Span) → length (join s ss) ≤ suc (length ss)
join_few s [] = omega arith
join_few s (t ∷ ts) =
    elim (s.end == t.start) as (λ x. length (cond x (record { start = s.start; end = t.end } ∷ ts) (s ∷ t ∷ ts)) ≤ suc (suc (length ts))) [ true ↦ omega arith | false ↦ omega arith ]

joined_few : (ss : List Span) → length (joined ss) ≤ length ss
joined_few [] = omega arith
joined_few (s ∷ ss) = omega (arith, join_few s (joined ss), joined_few ss)

abbrev EndBy : ℕ → List Span → Type 0
EndBy end [] = Unit {0}
EndBy end (s ∷ ss) = (s.end ≤ end) × EndBy end ss

join_ends : (end : ℕ) (s : Span) (ss : List Span) → s.end ≤ end → EndBy end ss → EndBy end (join s ss)
join_ends end s [] a k = (a, tt)
join_ends end s (t ∷ ts) a k =
    elim (s.end == t.start) as (λ x. EndBy end (cond x (record { start = s.start; end = t.end } ∷ ts) (s ∷ t ∷ ts))) [ true ↦ k | false ↦ (a, k) ]

joined_ends : (low : ℕ) (ss : List Span) → Follow low ss → EndBy (RAM_START + RAM_MOST) (joined ss)
joined_ends low [] k = tt
joined_ends low (s ∷ ss) k = join_ends (RAM_START + RAM_MOST) s (joined ss) k.4 (joined_ends s.end ss k.5)

below_end : (end : ℕ) (ss : List Span) (place : ℕ) → EndBy end ss → in_text ss place ≡ true → place < end
below_end end [] place k h = absurd cc
below_end end (s ∷ ss) place k h =
    elim (holds s place) as (λ b. holds s place ≡ b → (b || in_text ss place) ≡ true → place < end) [
      | true ↦ λ is _. let split = both (nat_le s.start place) (nat_lt place s.end) is in let less : place < s.end = ltb_true place s.end split.1 in omega (arith, less, k.0)
      | false ↦ λ is more. below_end end ss place k.1 more
    ] refl h

-- text is no larger than RAM
size_by_end : (low end : ℕ) (ss : List Span) → AreRangesFrom low ss → EndBy end ss → low ≤ end + 4096 → low + text_size ss ≤ end + 4096
size_by_end low end [] k e h = omega (arith, h)
size_by_end low end (s ∷ ss) k e h = let rest = size_by_end (s.end + 4096) end ss k.4 e.1 (omega (arith, e.0)) in omega (arith, rest, k.0, k.1)

-- ---- bytes

pages_hold : (n : ℕ) → n ≤ whole_pages n
pages_hold n = omega arith

pub length-filled : (size : ℕ) (bytes : List ℕ) → length bytes ≤ size → length (filled size bytes) ≡ size
length-filled size bytes fits =
    let zero_byte : ℕ = 0 in
    let filler = length-replicate (size - length bytes) zero_byte in
    omega (arith, length-append bytes (replicate (size - length bytes) 0), filler, fits)

bytes_size : (ss : List Segment) → list_all is_in_ram ss ≡ true → length (flat_map page_bytes ss) ≡ text_size (map pages_of_segment ss)
bytes_size [] inside = refl
bytes_size (s ∷ ss) inside =
    let split = both (is_in_ram s) (list_all is_in_ram ss) inside in
    let fits : length s.bytes ≤ whole_pages s.size = omega (arith, (in_ram s split.0).fits, pages_hold s.size) in
    omega (arith, length-append (page_bytes s) (flat_map page_bytes ss), length-filled (whole_pages s.size) s.bytes fits, bytes_size ss split.1)

some_bytes : (low : ℕ) (ss : List Span) → 0 < length ss → Follow low ss → 0 < text_size ss
some_bytes low [] some k = absurd (omega arith)
some_bytes low (s ∷ ss) some k = omega (arith, k.1)

length_map : {A B : Type 0} (f : A → B) (xs : List A) → length (map f xs) ≡ length xs
length_map f [] = refl
length_map f (x ∷ xs) = ap suc (length_map f xs)

-- ---- text

-- code that may be text, if it is not too large
pub record IsCode (code : List Segment) : Type 0 where
  pub text : is_nonempty_code code ≡ true
  pub few : length code ≤ RANGES_MOST
  pub inside : list_all is_in_ram code ≡ true
  pub page : list_all is_at_page code ≡ true
  pub apart : are_apart_from RAM_START (in_order code) ≡ true

code_follows : (code : List Segment) → IsCode code → Follow RAM_START (map pages_of_segment (in_order code))
code_follows code c =
    let some = both (nat_lt 0 (length code)) (list_all is_some code) c.text in
    pages_follow RAM_START (in_order code) (passes-in_order is_some code some.1) (passes-in_order is_in_ram code c.inside) (passes-in_order is_at_page code c.page) c.apart

pub spans_law : (code : List Segment) → IsCode code → AreRangesFrom RAM_START (text_spans code)
unfolding text_spans
spans_law code c = joined_ranges RAM_START (map pages_of_segment (in_order code)) (code_follows code c)

pub spans_fit : (code : List Segment) → IsCode code → text_size (text_spans code) < 18446744073709551616
unfolding text_spans
spans_fit code c =
    let follow = code_follows code c in
    let ends = joined_ends RAM_START (map pages_of_segment (in_order code)) follow in
    omega (arith, size_by_end RAM_START (RAM_START + RAM_MOST) (joined (map pages_of_segment (in_order code))) (joined_ranges RAM_START (map pages_of_segment (in_order code)) follow) ends (omega arith))

pub spans_few : (code : List Segment) → IsCode code → length (text_spans code) ≤ RANGES_MOST
unfolding text_spans
spans_few code c = omega (arith, joined_few (map pages_of_segment (in_order code)), length_map pages_of_segment (in_order code), length-in_order code, c.few)

spans_high : (code : List Segment) (place : ℕ) → IsCode code → in_text (text_spans code) place ≡ true → place < RAM_START + RAM_MOST
unfolding text_spans
spans_high code place c h = below_end (RAM_START + RAM_MOST) (joined (map pages_of_segment (in_order code))) place (joined_ends RAM_START (map pages_of_segment (in_order code)) (code_follows code c)) h

spans_size : (code : List Segment) → IsCode code → text_size (text_spans code) ≡ length (text_bytes code)
unfolding text_spans text_bytes
spans_size code c =
    joined_size RAM_START (map pages_of_segment (in_order code)) (code_follows code c) ∙ sym (bytes_size (in_order code) (passes-in_order is_in_ram code c.inside))

spans_some : (code : List Segment) → IsCode code → 0 < text_size (text_spans code)
unfolding text_spans
spans_some code c =
    let some = both (nat_lt 0 (length code)) (list_all is_some code) c.text in
    let code_some : 0 < length code = ltb_true 0 (length code) some.0 in
    let many : 0 < length (map pages_of_segment (in_order code)) = omega (arith, length_map pages_of_segment (in_order code), length-in_order code, code_some) in
    let follow = code_follows code c in
    omega (arith, joined_size RAM_START (map pages_of_segment (in_order code)) follow, some_bytes RAM_START (map pages_of_segment (in_order code)) many follow)

pub text_law : (code : List Segment) → IsCode code → text_size (text_spans code) ≤ TEXT_MOST → AreRanges (text_spans code) (text_bytes code)
text_law code c small = record {
  below = record {
    few = spans_few code c;
    ranges = spans_law code c;
    size = small;
    high = λ place h. spans_high code place c h;
  };
  long = spans_size code c;
  some = omega (arith, spans_size code c, spans_some code c);
}
