-- The small kernels of the tests are lawful images.
use Rattle.std.proofs.Common.{◌≡◌, ℕ, zero, suc, ◌+◌, ◌*◌, ◌%◌, ◌<◌, ◌≤◌, true, List, [], ◌∷◌, length, arith, refl, ap}
use Rattle.std.specs.Prelude.{All, Contains, map, slice_index_or}
use Rattle.std.proofs.lemmas.Bool.Decides.{nat_tests}
use Rattle.std.proofs.lemmas.Grind.{common_steps}
use Rattle.std.proofs.lemmas.List.Elements.{All-map}
use Rattle.fc_numbers.specs.declared.places.Span.{Span}
use Rattle.fc_numbers.specs.declared.places.TheConstants.{RAM_START}
use Rattle.fc_numbers.specs.Spans.{in_text, text_size}
use Rattle.guest_input.specs.declared.image.Image.{Image}
use Rattle.guest_input.specs.declared.image.Start.{Start}
use Rattle.guest_input.specs.declared.limits.TheConstants.{FUNCTIONS_MOST}
use Rattle.guest_input.specs.Text.{AreRanges, IsStartIn, bytes_before, bytes_of, spans_of}
use Rattle.guest_input.specs.Accepted.{IsAscendingFrom, IsImage, IsStarts, offsets_of, starts_of}
use Rattle.function_table.proofs.GroupLemmas.{ascending-size}

abbrev pub pages_at : ℕ → ℕ → Span
pages_at start count = record { start = start; end = start + count * 4096 }

-- an image of lawful parts
pub image-good : (i : Image) (ss : List Span) (bytes : List ℕ) (starts : List Start) → spans_of i.ranges ≡ ss → bytes_of i.ranges ≡ bytes → starts_of i.functions ≡ starts
    → i.parts ≡ [] → AreRanges ss bytes → All (IsStartIn ss) starts → IsStarts (offsets_of ss starts) (text_size ss)
    → ((n : ℕ) → n < length ss → Contains (offsets_of ss starts) (bytes_before ss n)) → length starts ≤ FUNCTIONS_MOST
    → in_text ss i.entry ≡ true → i.entry % 2 ≡ 0 → IsImage i
image-good i ss bytes starts spans text functions none ranges inside good heads few entry even =
    let count : length (spans_of i.ranges) ≡ length i.ranges = grind (arith, common_steps) in
    let same : length (starts_of i.functions) ≡ length i.functions = grind (arith, common_steps) in
    record {
      text = rw (spans, text) ranges;
      inside = rw (spans, functions) inside;
      starts = rw (spans, functions) good;
      heads = rw (spans, functions) (λ n h. heads n (omega (arith, h, count, ap length spans)));
      few = omega (arith, same, few, ap length functions);
      entry = rw spans entry;
      entry_even = even;
      parts = rw none tt;
    }

-- one range of text
pub one-range : (count : ℕ) (bytes : List ℕ) → 1 ≤ count → count ≤ 8 → length bytes ≡ count * 4096 → AreRanges (pages_at RAM_START count ∷ []) bytes
one-range count bytes some most long = record {
  below = record {
    few = omega arith;
    ranges = (omega arith, omega arith, refl, omega arith, tt);
    size = omega arith;
    high = λ place here. grind (arith, nat_tests, here);
  };
  long = omega (arith, long);
  some = omega (arith, long);
}

abbrev pub first_starts : List ℕ → List Start
first_starts offsets = map (λ offset. record { range = 0; offset = offset }) offsets

pub first-offsets : (ss : List Span) (offsets : List ℕ) → offsets_of ss (first_starts offsets) ≡ offsets
first-offsets ss [] = refl
first-offsets ss (o ∷ os) = let same : 0 + o ≡ o = omega arith in rw (same, first-offsets ss os) refl

start-in : (low size : ℕ) (xs : List ℕ) → IsAscendingFrom low xs size → (k d : ℕ) → k < length xs → (slice_index_or xs k d < size) × (slice_index_or xs k d % 2 ≡ 0)
start-in low size [] up k d within = absurd (omega arith)
start-in low size (x ∷ xs) up zero d within = (ascending-size x size xs up.2, up.1)
start-in low size (x ∷ xs) up (suc k) d within = start-in x size xs up.2 k d (omega arith)

starts-in : (size : ℕ) (xs : List ℕ) → 0 < size → IsStarts xs size → (k d : ℕ) → k < length xs → (slice_index_or xs k d < size) × (slice_index_or xs k d % 2 ≡ 0)
starts-in size [] some good k d within = absurd good
starts-in size (x ∷ xs) some good zero d within = (omega (arith, good.0), omega (arith, good.0))
starts-in size (x ∷ xs) some good (suc k) d within = start-in 0 size xs good.1 k d (omega arith)

pub first-inside : (count : ℕ) (offsets : List ℕ) → 1 ≤ count → IsStarts offsets (count * 4096) → All (IsStartIn (pages_at RAM_START count ∷ [])) (first_starts offsets)
first-inside count offsets some good =
    All-map (IsStartIn (pages_at RAM_START count ∷ [])) (λ (offset : ℕ). first_start offset) offsets
    (λ k d within. let x = starts-in (count * 4096) offsets (omega arith) good k d within in
    record { range = omega arith; inside = omega (arith, x.0); even = x.1 })
  where
    first_start : ℕ → Start
    first_start offset = record { range = 0; offset = offset }

pub first-heads : (ss : List Span) (offsets : List ℕ) (size n : ℕ) → IsStarts offsets size → n < 1 → Contains (offsets_of ss (first_starts offsets)) (bytes_before ss n)
first-heads ss [] size n good one = absurd good
first-heads ss (x ∷ xs) size zero good one = (0, omega arith, omega (arith, good.0))
first-heads ss (x ∷ xs) size (suc n) good one = absurd (omega arith)

abbrev pub two_pages : List Span
two_pages = pages_at RAM_START 1 ∷ pages_at (RAM_START + 8192) 1 ∷ []

abbrev pub start_at : ℕ → ℕ → Start
start_at range offset = record { range = range; offset = offset }

abbrev pub three_starts : List Start
three_starts = start_at 0 0 ∷ start_at 1 0 ∷ start_at 1 12 ∷ []

pub two-ranges : (bytes : List ℕ) → length bytes ≡ 8192 → AreRanges two_pages bytes
two-ranges bytes long = record {
  below = record {
    few = omega arith;
    ranges = (omega arith, omega arith, refl, refl, (omega arith, omega arith, refl, refl, tt));
    size = omega arith;
    high = λ place here. grind (arith, nat_tests, here);
  };
  long = omega (arith, long);
  some = omega (arith, long);
}

pub two-inside : All (IsStartIn two_pages) three_starts
two-inside zero d within = record { range = omega arith; inside = omega arith; even = refl }
two-inside (suc zero) d within = record { range = omega arith; inside = omega arith; even = refl }
two-inside (suc (suc zero)) d within = record { range = omega arith; inside = omega arith; even = refl }
two-inside (suc (suc (suc k))) d within = absurd (omega arith)

pub two-heads : (n : ℕ) → n < 2 → Contains (offsets_of two_pages three_starts) (bytes_before two_pages n)
two-heads zero within = (0, omega arith, refl)
two-heads (suc zero) within = (1, omega arith, refl)
two-heads (suc (suc n)) within = absurd (omega arith)
