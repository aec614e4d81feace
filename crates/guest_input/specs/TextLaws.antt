-- How the bytes of text and its ranges go together: bytes cut at the sizes of ranges are those of the ranges.
use Rattle.std.specs.Prelude.{◌≡◌, ℕ, List}
use Rattle.fc_numbers.specs.declared.places.Span.{Span}
use Rattle.guest_input.specs.Text.{AreRanges, spans_of, bytes_of}
use Rattle.guest_input.specs.TextIn.{cut}

abbrev pub SpansOfCut : Type 0
SpansOfCut = (ss : List Span) (bytes : List ℕ) → AreRanges ss bytes → spans_of (cut ss bytes) ≡ ss

abbrev pub BytesOfCut : Type 0
BytesOfCut = (ss : List Span) (bytes : List ℕ) → AreRanges ss bytes → bytes_of (cut ss bytes) ≡ bytes
