-- How places and offsets of text go together, where the ranges are lawful.
use Rattle.std.specs.Prelude.{◌≡◌, ℕ, ◌+◌, ◌%◌, ◌<◌, ◌≤◌, true, List}
use Rattle.fc_numbers.specs.declared.places.Span.{Span}
use Rattle.fc_numbers.specs.declared.places.TheConstants.{PAGE}
use Rattle.fc_numbers.specs.Spans.{in_text, text_size, offset_in, place_in, end_in, AreRangesFrom}

-- a place of text is at or above the bound of the ranges
abbrev pub PlacesAreAbove : Type 0
PlacesAreAbove = (ss : List Span) (low place : ℕ) → AreRangesFrom low ss → in_text ss place ≡ true → low ≤ place

abbrev pub OffsetsAreBelow : Type 0
OffsetsAreBelow = (ss : List Span) (low place : ℕ) → AreRangesFrom low ss → in_text ss place ≡ true → offset_in ss place < text_size ss

-- each is the other's
abbrev pub PlaceOfOffset : Type 0
PlaceOfOffset = (ss : List Span) (low place : ℕ) → AreRangesFrom low ss → in_text ss place ≡ true → place_in ss (offset_in ss place) ≡ place

abbrev pub OffsetOfPlace : Type 0
OffsetOfPlace = (ss : List Span) (low offset : ℕ) → AreRangesFrom low ss → offset < text_size ss → offset_in ss (place_in ss offset) ≡ offset

abbrev pub PlacesAreInText : Type 0
PlacesAreInText = (ss : List Span) (low offset : ℕ) → AreRangesFrom low ss → offset < text_size ss → in_text ss (place_in ss offset) ≡ true

-- two places of text less than a page apart are of one range
abbrev pub NearOffsets : Type 0
NearOffsets = (ss : List Span) (low place d : ℕ) → AreRangesFrom low ss → d < PAGE → in_text ss place ≡ true → in_text ss (place + d) ≡ true
    → offset_in ss (place + d) ≡ offset_in ss place + d

abbrev pub OffsetsRise : Type 0
OffsetsRise = (ss : List Span) (low p q : ℕ) → AreRangesFrom low ss → p < q → in_text ss p ≡ true → in_text ss q ≡ true → offset_in ss p < offset_in ss q

-- within a range, places and offsets go on together
abbrev pub NearPlaces : Type 0
NearPlaces = (ss : List Span) (low offset d : ℕ) → AreRangesFrom low ss → offset < text_size ss → offset + d < end_in ss offset
    → place_in ss (offset + d) ≡ place_in ss offset + d

-- a page begins at the same places in both countings
abbrev pub OffsetsKeepPages : Type 0
OffsetsKeepPages = (ss : List Span) (low place : ℕ) → AreRangesFrom low ss → in_text ss place ≡ true → offset_in ss place % PAGE ≡ place % PAGE

-- the end of a range lies behind its bytes, and not behind text
abbrev pub EndsAreNear : Type 0
EndsAreNear = (ss : List Span) (low offset : ℕ) → AreRangesFrom low ss → offset < text_size ss → (offset < end_in ss offset) × (end_in ss offset ≤ text_size ss)

-- text has whole pages
abbrev pub TextHasPages : Type 0
TextHasPages = (ss : List Span) (low : ℕ) → AreRangesFrom low ss → text_size ss % PAGE ≡ 0
