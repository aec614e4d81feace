-- What the code that places the ranges of text keeps: each range lies in a memory that ends at a place.
use Rattle.std.specs.Prelude.{ℕ, ◌≤◌, List, [], ◌∷◌}
use Rattle.fc_numbers.specs.declared.places.Span.{Span}
use Rattle.fc_numbers.specs.declared.places.TheConstants.{RAM_START}

abbrev pub LieBelow : ℕ → List Span → Type 0
LieBelow end [] = Unit {0}
LieBelow end (s ∷ ss) = (RAM_START ≤ s.start) × (s.start ≤ s.end) × (s.end ≤ end) × LieBelow end ss
