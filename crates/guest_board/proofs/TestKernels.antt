-- The small kernels of the tests are lawful images.
use Rattle.std.proofs.Common.{◌≡◌, ℕ, zero, suc, ◌+◌, ◌%◌, ◌<◌, ◌≤◌, true, List, [], ◌∷◌, length, arith, refl, ap}
use Rattle.std.specs.Prelude.{All, Contains}
use Rattle.std.proofs.lemmas.Bool.Decides.{nat_tests}
use Rattle.std.proofs.lemmas.Grind.{common_steps}
use Rattle.fc_numbers.specs.declared.places.Span.{Span}
use Rattle.fc_numbers.specs.declared.places.TheConstants.{RAM_START}
use Rattle.fc_numbers.specs.Spans.{in_text, text_size}
use Rattle.guest_input.specs.declared.image.Image.{Image}
use Rattle.guest_input.specs.declared.image.Start.{Start}
use Rattle.guest_input.specs.declared.limits.TheConstants.{FUNCTIONS_MOST}
use Rattle.guest_input.specs.Text.{AreRanges, IsStartIn, bytes_before, bytes_of, spans_of}
use Rattle.guest_input.specs.Accepted.{IsImage, IsStarts, offsets_of, starts_of}

-- an image of lawful parts
pub image-good : (i : Image) (ss : List Span) (bytes : List ℕ) (starts : List Start) → spans_of i.ranges ≡ ss → bytes_of i.ranges ≡ bytes → starts_of i.functions ≡ starts
    → i.parts ≡ [] → AreRanges ss bytes → All (IsStartIn ss) starts → IsStarts (offsets_of ss starts) (text_size ss)
    → ((n : ℕ) → n < length ss → Contains (offsets_of ss starts) (bytes_before ss n)) → length starts ≤ FUNCTIONS_MOST
    → in_text ss i.entry ≡ true → i.entry % 2 ≡ 0 → IsImage i
image-good i ss bytes starts spans text functions none ranges inside good heads few entry even =
    let count : length (spans_of i.ranges) ≡ length i.ranges = grind (arith, common_steps) in
    let same : length (starts_of i.functions) ≡ length i.functions = grind (arith, common_steps) in
    record {
      text = rw (spans, text) ranges;
      inside = rw (spans, functions) inside;
      starts = rw (spans, functions) good;
      heads = rw (spans, functions) (λ n h. heads n (omega (arith, h, count, ap length spans)));
      few = omega (arith, same, few, ap length functions);
      entry = rw spans entry;
      entry_even = even;
      parts = rw none tt;
    }

abbrev pub page_at : ℕ → Span
page_at start = record { start = start; end = start + 4096 }

abbrev pub start_at : ℕ → ℕ → Start
start_at range offset = record { range = range; offset = offset }

abbrev pub two_ranges : List Span
two_ranges = page_at RAM_START ∷ page_at (RAM_START + 8192) ∷ []

pub two-ranges : (bytes : List ℕ) → length bytes ≡ 8192 → AreRanges two_ranges bytes
two-ranges bytes long = record {
  below = record {
    few = omega arith;
    ranges = (omega arith, omega arith, refl, refl, (omega arith, omega arith, refl, refl, tt));
    size = omega arith;
    high = λ place here. grind (arith, nat_tests, here);
  };
  long = omega (arith, long);
  some = omega (arith, long);
}

abbrev pub two_starts : List Start
two_starts = start_at 0 0 ∷ start_at 1 0 ∷ []

pub two-inside : All (IsStartIn two_ranges) two_starts
two-inside zero d within = record { range = omega arith; inside = omega arith; even = refl }
two-inside (suc zero) d within = record { range = omega arith; inside = omega arith; even = refl }
two-inside (suc (suc k)) d within = absurd (omega arith)

pub two-heads : (n : ℕ) → n < 2 → Contains (offsets_of two_ranges two_starts) (bytes_before two_ranges n)
two-heads zero within = (0, omega arith, refl)
two-heads (suc zero) within = (1, omega arith, refl)
two-heads (suc (suc n)) within = absurd (omega arith)
