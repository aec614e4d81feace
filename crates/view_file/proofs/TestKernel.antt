-- The kernel of the tests is a lawful image.
use Rattle.std.proofs.Common.{◌≡◌, ℕ, zero, suc, ◌+◌, ◌<◌, List, [], ◌∷◌, length, arith, refl, ap}
use Rattle.std.specs.Prelude.{All, Contains}
use Rattle.std.proofs.lemmas.Bool.Decides.{nat_tests}
use Rattle.std.proofs.lemmas.Grind.{common_steps}
use Rattle.fc_numbers.specs.declared.places.Span.{Span}
use Rattle.fc_numbers.specs.declared.places.TheConstants.{RAM_START}
use Rattle.guest_input.specs.declared.image.Image.{Image}
use Rattle.guest_input.specs.declared.image.Start.{Start}
use Rattle.guest_input.specs.Text.{AreRanges, IsStartIn, bytes_before, bytes_of, spans_of}
use Rattle.guest_input.specs.Accepted.{IsImage, offsets_of, starts_of}

abbrev pub first_range : Span
first_range = record { start = RAM_START; end = RAM_START + 4096 }

abbrev pub second_range : Span
second_range = record { start = RAM_START + 8192; end = RAM_START + 12288 }

abbrev ranges : List Span
ranges = first_range ∷ second_range ∷ []

abbrev start_at : ℕ → ℕ → Start
start_at range offset = record { range = range; offset = offset }

abbrev pub starts : List Start
starts = start_at 0 0 ∷ start_at 0 12 ∷ start_at 1 0 ∷ []

pub lawful : (bytes : List ℕ) → length bytes ≡ 8192 → AreRanges ranges bytes
lawful bytes long = record {
  below = record {
    few = omega arith;
    ranges = (omega arith, omega arith, refl, refl, (omega arith, omega arith, refl, refl, tt));
    size = omega arith;
    high = λ place here. grind (arith, nat_tests, here);
  };
  long = omega (arith, long);
  some = omega (arith, long);
}

inside : All (IsStartIn ranges) starts
inside zero d within = record { range = omega arith; inside = omega arith; even = refl }
inside (suc zero) d within = record { range = omega arith; inside = omega arith; even = refl }
inside (suc (suc zero)) d within = record { range = omega arith; inside = omega arith; even = refl }
inside (suc (suc (suc k))) d within = absurd (omega arith)

heads : (n : ℕ) → n < 2 → Contains (offsets_of ranges starts) (bytes_before ranges n)
heads zero within = (0, omega arith, refl)
heads (suc zero) within = (2, omega arith, refl)
heads (suc (suc n)) within = absurd (omega arith)

pub good : (i : Image) (bytes : List ℕ) → length bytes ≡ 8192 → spans_of i.ranges ≡ ranges → bytes_of i.ranges ≡ bytes → starts_of i.functions ≡ starts
    → i.parts ≡ [] → i.entry ≡ RAM_START → IsImage i
good i bytes long spans text functions none entry =
    let count : length (spans_of i.ranges) ≡ length i.ranges = grind (arith, common_steps) in
    let same : length (starts_of i.functions) ≡ length i.functions = grind (arith, common_steps) in
    record {
      text = rw (spans, text) (lawful bytes long);
      inside = rw (spans, functions) inside;
      starts = rw (spans, functions) (refl, (omega arith, refl, (omega arith, refl, omega arith)));
      heads = rw (spans, functions) (λ n h. heads n (omega (arith, h, count, ap length spans)));
      few = omega (arith, same, ap length functions);
      entry = rw (spans, entry) refl;
      entry_even = rw entry refl;
      parts = rw none tt;
    }
