-- What is accepted gives an image that may be run.
use Rattle.std.proofs.Common.{◌≡◌, ℕ, ◌%◌, ◌<◌, ◌≤◌, ◌==◌, nat_le, Bool, true, false, not, ◌&&◌, List, [], ◌∷◌, length, map, Option, Some, None, Ok, refl, sym, ap, ◌∙◌, subst, arith}
use Rattle.std.specs.Prelude.{if◌then◌else◌, All, Contains, flat_map}
use Rattle.std.specs.List.{list_all, list_any}
use Rattle.std.proofs.lemmas.Option.{none-some, same_Some}
use Rattle.std.proofs.lemmas.List.{length-map}
use Rattle.std.proofs.lemmas.Bool.Decides.{nat_tests}
use Rattle.fc_numbers.specs.declared.places.Span.{Span}
use Rattle.fc_numbers.specs.declared.places.TheConstants.{RAM_START}
use Rattle.fc_numbers.specs.declared.spans.TheConstants.{RANGES_MOST, TEXT_MOST}
use Rattle.fc_numbers.specs.Spans.{in_text, text_size, AreRangesFrom}
use Rattle.guest_input.specs.declared.limits.TheConstants.{FUNCTIONS_MOST}
use Rattle.guest_input.specs.declared.image.Function.{Function}
use Rattle.guest_input.specs.Text.{Range, AreRanges, IsStartIn, span_of, spans_of, bytes_of, bytes_before}
use Rattle.guest_input.specs.TextIn.{cut}
use Rattle.guest_input.specs.Accepted.{starts_of, offsets_of, IsStarts, IsPartOf, AllParts, IsImage}
use Rattle.guest_input.proofs.Cut.{cut_spans, cut_bytes}
use Rattle.elf_read.specs.declared.laid.Segment.{Segment}
use Rattle.elf_read.specs.declared.parts.ElfFault.TheVariants.{NoText, TooManyTexts, WritableText, Misplaced, OddFunction, TooLarge, TooManyFunctions, EntryOutside}
use Rattle.elf_read.specs.declared.parts.ElfParts.{ElfParts}
use Rattle.elf_read.specs.Laid.{Layout}
use Rattle.elf_read.specs.Steps.{must, or_fault}
use Rattle.elf_read.specs.Starts.{functions_in}
use Rattle.elf_read.specs.Kernel.{is_nonempty_code, is_in_ram, is_at_page, in_order, are_apart_from, pages_of_segment, joined, text_spans, text_bytes, page_bytes, part_of, is_beside, are_in_place, are_placed, is_odd_in, is_even_in, entry_in, kernel_at, kernel_in, kernel_of_laid, image_with}
use Rattle.elf_read.proofs.Passing.{both, is_false, eqb_true, leb_true, bind_ok, must_ok, or_fault_ok, same_Ok}
use Rattle.elf_read.proofs.Segments.{in_ram, passes-in_order}
use Rattle.elf_read.proofs.Texts.{IsCode, length-filled, ranges_same, spans_law, spans_few, spans_fit, text_law}
use Rattle.elf_read.proofs.FunctionLaws.{functions_ascend, functions_heads, functions_inside}

-- ---- data parts

part_law : (spans : List Span) (s : Segment) → is_in_ram s ≡ true → is_beside spans s ≡ true → IsPartOf spans (part_of s)
part_law spans s inside apart =
    let facts = in_ram s inside in
    record { low = facts.low; high = omega (arith, facts.high, length-filled s.size s.bytes facts.fits); apart = apart }

parts_law : (spans : List Span) (ss : List Segment) → list_all is_in_ram ss ≡ true → list_all (is_beside spans) ss ≡ true → AllParts spans (map part_of ss)
parts_law spans [] inside apart = tt
parts_law spans (s ∷ ss) inside apart =
    let a = both (is_in_ram s) (list_all is_in_ram ss) inside in
    let b = both (is_beside spans s) (list_all (is_beside spans) ss) apart in
    (part_law spans s a.0 b.0, parts_law spans ss a.1 b.1)

-- ---- the first instruction

even_in : (spans : List Span) (place : ℕ) → is_even_in spans place ≡ true → (in_text spans place ≡ true) × (place % 2 ≡ 0)
even_in spans place h = let split = both (in_text spans place) (place % 2 == 0) h in (split.0, eqb_true (place % 2) 0 split.1)

entry_at : (b : Bool) (spans : List Span) (place entry : ℕ) → is_even_in spans place ≡ b → (if b then Some place else None) ≡ Some entry → (in_text spans entry ≡ true) × (entry % 2 ≡ 0)
entry_at true spans place entry is h = subst (λ p. (in_text spans p ≡ true) × (p % 2 ≡ 0)) (same_Some place entry h) (even_in spans place is)
entry_at false spans place entry is h = absurd (none-some entry h)

entry_law : (spans : List Span) (o : Option ℕ) (entry : ℕ) → entry_in spans o ≡ Some entry → (in_text spans entry ≡ true) × (entry % 2 ≡ 0)
entry_law spans None entry h = absurd (none-some entry h)
entry_law spans (Some place) entry h = entry_at (is_even_in spans place) spans place entry refl h

-- ---- the kernel

-- the tests that an accepted kernel passed
record Passed (l : Layout) (entry : ℕ) : Type 0 where
  code : IsCode l.code
  parts : list_all is_in_ram l.parts ≡ true
  beside : list_all (is_beside (text_spans l.code)) l.parts ≡ true
  even : list_any (is_odd_in (text_spans l.code)) l.named ≡ false
  small : text_size (text_spans l.code) ≤ TEXT_MOST
  few : length (functions_in 0 (text_spans l.code) l.named) ≤ FUNCTIONS_MOST
  at : entry_in (text_spans l.code) l.entry ≡ Some entry

some_ranges : (spans : List Span) → 0 < text_size spans → 0 < length spans
some_ranges [] some = absurd (omega (arith, some))
some_ranges (s ∷ ss) some = omega arith

length-spans : (rs : List Range) → length (spans_of rs) ≡ length rs
length-spans rs = length-map rs span_of

passed_law : (l : Layout) (entry : ℕ) (digest : List ℕ) → Passed l entry → IsImage (image_with digest (kernel_at l (text_spans l.code) entry))
passed_law l entry digest p =
    let spans = text_spans l.code in
    let bytes = text_bytes l.code in
    let lawful = text_law l.code p.code p.small in
    let ranges = spans_law l.code p.code in
    let first = entry_law spans l.entry entry p.at in
    let same : spans_of (cut spans bytes) ≡ spans = cut_spans spans bytes lawful in
    let same_bytes : bytes_of (cut spans bytes) ≡ bytes = cut_bytes spans bytes lawful in
    let functions = functions_in 0 spans l.named in
    let some : 0 < length spans = some_ranges spans (omega (arith, lawful.long, lawful.some)) in
    record {
      text = subst (λ (x : List Span). AreRanges x (bytes_of (cut spans bytes))) (sym same) (subst (λ (y : List ℕ). AreRanges spans y) (sym same_bytes) lawful);
      inside = subst (λ (x : List Span). All (IsStartIn x) (starts_of functions)) (sym same) (functions_inside spans RAM_START l.named ranges p.even);
      starts = subst (λ (x : List Span). IsStarts (offsets_of x (starts_of functions)) (text_size x)) (sym same) (functions_ascend spans RAM_START l.named ranges some p.even);
      heads = λ n within. subst (λ (x : List Span). Contains (offsets_of x (starts_of functions)) (bytes_before x n)) (sym same)
          (functions_heads spans RAM_START n l.named ranges p.even (omega (arith, within, length-spans (cut spans bytes), ap (λ (x : List Span). length x) same)));
      few = p.few;
      entry = subst (λ (x : List Span). in_text x entry ≡ true) (sym same) first.0;
      entry_even = first.1;
      parts = subst (λ (x : List Span). AllParts x (map part_of l.parts)) (sym same) (parts_law spans l.parts p.parts p.beside);
    }

-- the tests of where code and data parts lie
pub record Placed (code others : List Segment) : Type 0 where
  pub inside : list_all is_in_ram code ≡ true
  pub page : list_all is_at_page code ≡ true
  pub parts : list_all is_in_ram others ≡ true
  pub apart : are_apart_from RAM_START (in_order code) ≡ true
  pub beside : list_all (is_beside (text_spans code)) others ≡ true

pub in_place_law : (code parts : List Segment) → are_in_place code parts ≡ true → (list_all is_in_ram code ≡ true) × (list_all is_at_page code ≡ true) × (list_all is_in_ram parts ≡ true)
in_place_law code parts h =
    let outer = both (list_all is_in_ram code && list_all is_at_page code) (list_all is_in_ram parts) h in
    let inner = both (list_all is_in_ram code) (list_all is_at_page code) outer.0 in
    (inner.0, inner.1, outer.1)

pub placed_law : (code parts : List Segment) → are_placed code parts ≡ true → Placed code parts
unfolding are_placed
placed_law code parts h =
    let a = both (are_in_place code parts && are_apart_from RAM_START (in_order code)) (list_all (is_beside (text_spans code)) parts) h in
    let b = both (are_in_place code parts) (are_apart_from RAM_START (in_order code)) a.0 in
    let c = in_place_law code parts b.0 in
    record { inside = c.0; page = c.1; parts = c.2; apart = b.1; beside = a.1 }

in_law : (l : Layout) (k : ElfParts) (digest : List ℕ) → is_nonempty_code l.code ≡ true → length l.code ≤ RANGES_MOST → Placed l.code l.parts → kernel_in l (text_spans l.code) ≡ Ok k
    → IsImage (image_with digest k)
unfolding kernel_in
in_law l k digest text few placed h =
    let spans = text_spans l.code in
    let a = bind_ok (must OddFunction (not (list_any (is_odd_in spans) l.named))) _ k h in
    let b = bind_ok (must TooLarge (nat_le (text_size spans) TEXT_MOST)) _ k a.2 in
    let c = bind_ok (must TooManyFunctions (nat_le (length (functions_in 0 spans l.named)) FUNCTIONS_MOST)) _ k b.2 in
    let d = bind_ok (or_fault EntryOutside (entry_in spans l.entry)) _ k c.2 in
    subst (λ (x : ElfParts). IsImage (image_with digest x)) (same_Ok (kernel_at l spans d.0) k d.2)
    (passed_law l d.0 digest (record {
      code = record { text = text; few = few; inside = placed.inside; page = placed.page; apart = placed.apart };
      parts = placed.parts;
      beside = placed.beside;
      even = is_false (list_any (is_odd_in spans) l.named) (must_ok OddFunction _ a.0 a.1);
      small = leb_true (text_size spans) TEXT_MOST (must_ok TooLarge _ b.0 b.1);
      few = leb_true (length (functions_in 0 spans l.named)) FUNCTIONS_MOST (must_ok TooManyFunctions _ c.0 c.1);
      at = or_fault_ok EntryOutside (entry_in spans l.entry) d.0 d.1;
    }))

-- an accepted kernel gives an image with any digest
pub laid_law : (l : Layout) (k : ElfParts) (digest : List ℕ) → kernel_of_laid l ≡ Ok k → IsImage (image_with digest k)
unfolding kernel_of_laid
laid_law l k digest h =
    let a = bind_ok (must NoText (is_nonempty_code l.code)) _ k h in
    let b = bind_ok (must TooManyTexts (nat_le (length l.code) RANGES_MOST)) _ k a.2 in
    let c = bind_ok (must WritableText (not l.writable)) _ k b.2 in
    let d = bind_ok (must Misplaced (are_placed l.code l.parts)) _ k c.2 in
    in_law l k digest (must_ok NoText (is_nonempty_code l.code) a.0 a.1) (leb_true (length l.code) RANGES_MOST (must_ok TooManyTexts _ b.0 b.1)) (placed_law l.code l.parts (must_ok Misplaced (are_placed l.code l.parts) d.0 d.1)) d.2

-- ---- which tests decide where code and data parts lie

neither_left : (a b : Bool) → a ≡ false → (a && b) ≡ false
neither_left a b h = ap (λ x. x && b) h

neither_right : (a b : Bool) → b ≡ false → (a && b) ≡ false
neither_right true b h = h
neither_right false b h = refl

pub not_in_place : (code parts : List Segment) → are_in_place code parts ≡ false → are_placed code parts ≡ false
unfolding are_placed
not_in_place code parts h =
    neither_left (are_in_place code parts && are_apart_from RAM_START (in_order code)) (list_all (is_beside (text_spans code)) parts)
    (neither_left (are_in_place code parts) (are_apart_from RAM_START (in_order code)) h)

pub not_apart : (code parts : List Segment) → are_apart_from RAM_START (in_order code) ≡ false → are_placed code parts ≡ false
unfolding are_placed
not_apart code parts h =
    neither_left (are_in_place code parts && are_apart_from RAM_START (in_order code)) (list_all (is_beside (text_spans code)) parts)
    (neither_right (are_in_place code parts) (are_apart_from RAM_START (in_order code)) h)

pub not_beside : (code parts : List Segment) → list_all (is_beside (text_spans code)) parts ≡ false → are_placed code parts ≡ false
unfolding are_placed
not_beside code parts h =
    neither_right (are_in_place code parts && are_apart_from RAM_START (in_order code)) (list_all (is_beside (text_spans code)) parts) h

pub all_placed : (code parts : List Segment) → are_in_place code parts ≡ true → are_apart_from RAM_START (in_order code) ≡ true → list_all (is_beside (text_spans code)) parts ≡ true
    → are_placed code parts ≡ true
unfolding are_placed
all_placed code parts a b c = ap (λ x. (x && are_apart_from RAM_START (in_order code)) && list_all (is_beside (text_spans code)) parts) a
    ∙ ap (λ x. x && list_all (is_beside (text_spans code)) parts) b ∙ c

pub spans_are : (code : List Segment) → joined (map pages_of_segment (in_order code)) ≡ text_spans code
unfolding text_spans
spans_are code = refl

pub bytes_are : (code : List Segment) → flat_map page_bytes (in_order code) ≡ text_bytes code
unfolding text_bytes
bytes_are code = refl

-- ---- what passed the tests, while it is put together

pub code_law : (code parts : List Segment) → is_nonempty_code code ≡ true → length code ≤ RANGES_MOST → are_placed code parts ≡ true → IsCode code
code_law code parts text few placed =
    let p = placed_law code parts placed in
    record { text = text; few = few; inside = p.inside; page = p.page; apart = p.apart }

-- what is known of the ranges that the text has
pub record Laid (code sorted : List Segment) (ranges : List Span) : Type 0 where
  pub page : AreRangesFrom RAM_START ranges
  pub few : length ranges ≤ RANGES_MOST
  pub fit : text_size ranges < 18446744073709551616
  pub inside : list_all is_in_ram sorted ≡ true
  pub text : text_size ranges ≤ TEXT_MOST → AreRanges ranges (flat_map page_bytes sorted)

pub laid_text : (code sorted : List Segment) (ranges : List Span) → IsCode code → sorted ≡ in_order code → ranges ≡ text_spans code → Laid code sorted ranges
laid_text code sorted ranges c order is = record {
  page = subst (AreRangesFrom RAM_START) (sym is) (spans_law code c);
  few = subst (λ (r : List Span). length r ≤ RANGES_MOST) (sym is) (spans_few code c);
  fit = subst (λ (r : List Span). text_size r < 18446744073709551616) (sym is) (spans_fit code c);
  inside = ap (list_all is_in_ram) order ∙ passes-in_order is_in_ram code c.inside;
  text = λ small.
      let here : text_size (text_spans code) ≤ TEXT_MOST = subst (λ (r : List Span). text_size r ≤ TEXT_MOST) is small in
      subst (λ (r : List Span). AreRanges r (flat_map page_bytes sorted)) (sym is)
      (subst (λ (ss : List Segment). AreRanges (text_spans code) (flat_map page_bytes ss)) (sym order) (subst (λ (bytes : List ℕ). AreRanges (text_spans code) bytes) (sym (bytes_are code)) (text_law code c here)));
}

-- what was put together is what the definition says
pub record Made (l : Layout) (spans : List Span) (k : ElfParts) : Type 0 where
  pub text : is_nonempty_code l.code ≡ true
  pub few : length l.code ≤ RANGES_MOST
  pub closed : l.writable ≡ false
  pub placed : are_placed l.code l.parts ≡ true
  pub is : spans ≡ text_spans l.code
  pub even : list_any (is_odd_in spans) l.named ≡ false
  pub small : text_size spans ≤ TEXT_MOST
  pub functions : k.functions ≡ functions_in 0 spans l.named
  pub count : length k.functions ≤ FUNCTIONS_MOST
  pub entry : entry_in spans l.entry ≡ Some k.entry
  pub lawful : AreRanges spans (text_bytes l.code)
  pub places : spans_of k.ranges ≡ spans
  pub bytes : bytes_of k.ranges ≡ text_bytes l.code
  pub parts : k.parts ≡ map part_of l.parts

leb_from : (a b : ℕ) → a ≤ b → nat_le a b ≡ true
leb_from a b h = grind (arith, nat_tests, h)

abbrev parts_at : ℕ → List Range → List (ℕ × List ℕ) → List Function → ElfParts
parts_at entry ranges parts functions = record { entry = entry; ranges = ranges; parts = parts; functions = functions }

made_is : (l : Layout) (spans : List Span) (k : ElfParts) → Made l spans k → kernel_at l spans k.entry ≡ k
made_is l spans k m =
    let ranges = ranges_same k.ranges (cut spans (text_bytes l.code)) (m.places ∙ sym (cut_spans spans (text_bytes l.code) m.lawful)) (m.bytes ∙ sym (cut_bytes spans (text_bytes l.code) m.lawful)) in
    ap (λ r. parts_at k.entry r (map part_of l.parts) (functions_in 0 spans l.named)) (sym ranges)
    ∙ ap (λ p. parts_at k.entry k.ranges p (functions_in 0 spans l.named)) (sym m.parts) ∙ ap (parts_at k.entry k.ranges k.parts) (sym m.functions)

made_in : (l : Layout) (spans : List Span) (k : ElfParts) → Made l spans k → kernel_in l spans ≡ Ok k
unfolding kernel_in
made_in l spans k m =
    let count : nat_le (length (functions_in 0 spans l.named)) FUNCTIONS_MOST ≡ true = ap (λ (fs : List Function). nat_le (length fs) FUNCTIONS_MOST) (sym m.functions) ∙ leb_from (length k.functions) FUNCTIONS_MOST m.count in
    let small : nat_le (text_size spans) TEXT_MOST ≡ true = leb_from (text_size spans) TEXT_MOST m.small in
    rw (m.even, small, count, m.entry) (ap Ok (made_is l spans k m))

pub put_together : (l : Layout) (spans : List Span) (k : ElfParts) → Made l spans k → kernel_of_laid l ≡ Ok k
unfolding kernel_of_laid kernel_in
put_together l spans k m =
    let few : nat_le (length l.code) RANGES_MOST ≡ true = leb_from (length l.code) RANGES_MOST m.few in
    rw (m.text, few, m.closed, m.placed) (ap (kernel_in l) (sym m.is) ∙ made_in l spans k m)
