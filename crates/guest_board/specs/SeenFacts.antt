-- What the code of a step over windows keeps: a place that is fetched lies in text.
use Rattle.std.specs.Prelude.{◌≡◌, ℕ, true, List, Option, Some, None}
use Rattle.fc_numbers.specs.declared.places.Span.{Span}
use Rattle.fc_numbers.specs.Spans.{in_text}

abbrev pub IsPlacedIn : List Span → Option ℕ → Type 0
IsPlacedIn text None = Unit {0}
IsPlacedIn text (Some place) = in_text text place ≡ true
