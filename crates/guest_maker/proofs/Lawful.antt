-- Images of one range of text are accepted, and so are setups whose RAM holds them.
use Rattle.std.proofs.Common.{◌≡◌, ℕ, zero, suc, ◌+◌, ◌-◌, ◌*◌, ◌%◌, ◌<◌, ◌≤◌, Bool, true, false, ◌&&◌, ◌||◌, List, [], ◌∷◌, ◌++◌, length, take, map, refl, sym, ap, subst, ◌∙◌, arith, lit<, lit≤}
use Rattle.std.specs.Prelude.{flat_map, nat_lt, nat_le, slice_index_or, All, Contains}
use Rattle.std.proofs.lemmas.Bool.Decides.{nat_tests}
use Rattle.std.proofs.lemmas.List.{append-nil}
use Rattle.std.proofs.lemmas.List.Elements.{All-cons}
use Rattle.fc_numbers.specs.declared.places.Span.{Span}
use Rattle.fc_numbers.specs.declared.places.TheConstants.{RAM_START, RAM_MOST, PAGE}
use Rattle.fc_numbers.specs.declared.spans.TheConstants.{RANGES_MOST, TEXT_MOST}
use Rattle.fc_numbers.specs.Spans.{holds, in_text, text_size, size_of, AreRangesFrom, IsTextBelow}
use Rattle.guest_input.specs.declared.image.Start.{Start}
use Rattle.guest_input.specs.declared.image.Function.{Function}
use Rattle.guest_input.specs.declared.image.Image.{Image}
use Rattle.guest_input.specs.declared.limits.TheConstants.{FUNCTIONS_MOST}
use Rattle.guest_input.specs.Text.{Range, AreRanges, IsStartIn, bytes_before, bytes_of, flat_of, span_of, spans_of, no_span}
use Rattle.guest_input.specs.Accepted.{IsImage, IsAscendingFrom, IsStarts, AllParts, starts_of, offsets_of}
use Rattle.guest_maker.specs.Guest.{image_of_guest, range_of_text}

pub record IsPages (text : List ℕ) : Type 0 where
  pub some : 0 < length text
  pub whole : length text % PAGE ≡ 0
  pub most : length text ≤ TEXT_MOST

abbrev pub span_to : ℕ → Span
span_to size = record { start = RAM_START; end = RAM_START + size }

abbrev pub span : List ℕ → Span
span text = span_to (length text)

-- functions that stand one behind another in text of this size, the first above an offset
abbrev pub Stand : ℕ → List Function → ℕ → Type 0
Stand low [] size = low < size
Stand low (f ∷ fs) size = (f.at.range ≡ 0) × (low < f.at.offset) × (f.at.offset % 2 ≡ 0) × Stand f.at.offset fs size

-- the first function stands at the start of text
abbrev pub AreFunctions : List Function → ℕ → Type 0
AreFunctions [] size = ⊥
AreFunctions (f ∷ fs) size = (f.at.range ≡ 0) × (f.at.offset ≡ 0) × Stand 0 fs size

flat : (text : List ℕ) (at : Start) → at.range ≡ 0 → flat_of (span text ∷ []) at ≡ at.offset
flat text at e = ap (λ n. text_size (take n (span text ∷ [])) + at.offset) e ∙ omega arith

Stand-below : (low size : ℕ) (fs : List Function) → Stand low fs size → low < size
Stand-below low size [] h = h
Stand-below low size (f ∷ fs) h = omega (arith, h.1, Stand-below f.at.offset size fs h.3)

ascending : (text : List ℕ) (low : ℕ) (fs : List Function) (size : ℕ) → Stand low fs size → IsAscendingFrom low (offsets_of (span text ∷ []) (starts_of fs)) size
ascending text low [] size h = h
ascending text low (f ∷ fs) size h =
    let e = sym (flat text f.at h.0) in (
      subst (λ n. low < n) e h.1,
      subst (λ n. n % 2 ≡ 0) e h.2,
      subst (λ n. IsAscendingFrom n (offsets_of (span text ∷ []) (starts_of fs)) size) e (ascending text f.at.offset fs size h.3),
    )

inside_one : (text : List ℕ) (at : Start) → at.range ≡ 0 → at.offset < length text → at.offset % 2 ≡ 0 → IsStartIn (span text ∷ []) at
inside_one text at e low even = record {
  range = omega (arith, e);
  inside = subst (λ n. at.offset < size_of (slice_index_or (span text ∷ []) n no_span)) (sym e) (omega (arith, low));
  even = even;
}

inside_all : (text : List ℕ) (low : ℕ) (fs : List Function) → Stand low fs (length text) → All (IsStartIn (span text ∷ [])) (starts_of fs)
inside_all text low [] h = λ k d less. absurd (omega (arith, less))
inside_all text low (f ∷ fs) h =
    All-cons (IsStartIn (span text ∷ [])) f.at (starts_of fs) (inside_one text f.at h.0 (Stand-below f.at.offset (length text) fs h.3) h.2) (inside_all text f.at.offset fs h.3)

starts : (text : List ℕ) (fs : List Function) (size : ℕ) → AreFunctions fs size → IsStarts (offsets_of (span text ∷ []) (starts_of fs)) size
starts text [] size h = absurd h
starts text (f ∷ fs) size h =
    let e = flat text f.at h.0 ∙ h.1 in
    (e, ascending text 0 fs size h.2)

inside : (text : List ℕ) (fs : List Function) → AreFunctions fs (length text) → All (IsStartIn (span text ∷ [])) (starts_of fs)
inside text [] h = absurd h
inside text (f ∷ fs) h =
    All-cons (IsStartIn (span text ∷ [])) f.at (starts_of fs)
    (inside_one text f.at h.0 (omega (arith, h.1, Stand-below 0 (length text) fs h.2)) (omega (arith, h.1))) (inside_all text 0 fs h.2)

heads : (text : List ℕ) (fs : List Function) (size : ℕ) → AreFunctions fs size → (n : ℕ) → n < 1 → Contains (offsets_of (span text ∷ []) (starts_of fs)) (bytes_before (span text ∷ []) n)
heads text [] size h n less = absurd h
heads text (f ∷ fs) size h zero less = (0, omega arith, flat text f.at h.0 ∙ h.1)
heads text (f ∷ fs) size h (suc n) less = absurd (omega (arith, less))

true_ltb : (a b : ℕ) → a < b → nat_lt a b ≡ true
true_ltb a b h = grind (arith, nat_tests)

in_span : (low high place : ℕ) → (nat_le low place && nat_lt place high || false) ≡ true → place < high
in_span low high place e = grind (arith, nat_tests)

pub below : (end : ℕ) (text : List ℕ) → IsPages text → RAM_START + length text ≤ end → IsTextBelow end (span text ∷ [])
below end text h high = record {
  few = lit≤ tt;
  ranges = (omega arith, omega (arith, h.some), refl, omega (arith, h.whole), tt);
  size = omega (arith, h.most);
  high = λ place e. omega (arith, high, in_span RAM_START (RAM_START + length text) place e);
}

text_lawful : (text : List ℕ) → IsPages text → AreRanges (span text ∷ []) text
text_lawful text h = record {
  below = below (RAM_START + RAM_MOST) text h (omega (arith, h.most));
  long = omega arith;
  some = h.some;
}

pub lawful_image : (text : List ℕ) (parts : List (ℕ × List ℕ)) (fs : List Function) → IsPages text → AreFunctions fs (length text) → length fs ≤ FUNCTIONS_MOST
    → AllParts (span text ∷ []) parts → IsImage (image_of_guest text parts fs)
lawful_image text parts fs pages functions few apart = record {
  text = subst (AreRanges (span text ∷ [])) (sym (append-nil text)) (text_lawful text pages);
  inside = inside text fs functions;
  starts = subst (IsStarts (offsets_of (span text ∷ []) (starts_of fs))) (omega arith) (starts text fs (length text) functions);
  heads = heads text fs (length text) functions;
  few = few;
  entry = rw (true_ltb RAM_START (RAM_START + length text) (omega (arith, pages.some))) refl;
  entry_even = refl;
  parts = apart;
}

first : {A : Type 0} (x y : A) (xs ys : List A) → x ∷ xs ≡ y ∷ ys → x ≡ y
first x y xs ys e = cc

more_than_one : {A : Type 0} (x y z : A) (zs : List A) → x ∷ z ∷ zs ≡ y ∷ [] → ⊥
more_than_one x y z zs e = cc

abbrev range : ℕ → List ℕ → Range
range base bytes = record { base = base; bytes = bytes }

-- the place and the bytes of one range say which it is
pub one_range : (ranges : List Range) (text : List ℕ) → spans_of ranges ≡ span text ∷ [] → bytes_of ranges ≡ text → ranges ≡ range_of_text text ∷ []
one_range [] text spans bytes = absurd cc
one_range (r ∷ []) text spans bytes =
    let place : r.base ≡ RAM_START = ap (λ (s : Span). s.start) (first (span_of r) (span text) [] [] spans) in
    let whole : r.bytes ≡ text = sym (append-nil r.bytes) ∙ bytes in
    ap (λ b. range b r.bytes ∷ []) place ∙ ap (λ t. range RAM_START t ∷ []) whole
one_range (r ∷ s ∷ more) text spans bytes = absurd (more_than_one (span_of r) (span text) (span_of s) (spans_of more) spans)
