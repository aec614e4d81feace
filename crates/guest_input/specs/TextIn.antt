-- How the ranges of kernel text are kept: their places, and the bytes of all, which are cut at the sizes of the ranges.
use Rattle.std.specs.Prelude.{ℕ, List, [], ◌∷◌, take, drop}
use Rattle.fc_numbers.specs.declared.places.Span.{Span}
use Rattle.fc_numbers.specs.Spans.{size_of}
use Rattle.guest_input.specs.declared.ranges.Ranges.TheInside.{Inside}
use Rattle.guest_input.specs.Text.{Range, AreRanges}

abbrev pub cut : List Span → List ℕ → List Range
cut [] bytes = []
cut (s ∷ ss) bytes = record { base = s.start; bytes = take (size_of s) bytes } ∷ cut ss (drop (size_of s) bytes)

abbrev pub ranges_in : Inside → List Range
ranges_in r = cut r.spans.items r.bytes

abbrev pub IsText : Inside → Type 0
IsText r = AreRanges r.spans.items r.bytes
