-- Kernel text as ranges of places: which place is which byte of text, counted through the ranges one after another.
use Rattle.std.specs.Prelude.{◌≡◌, ℕ, ◌+◌, ◌-◌, ◌%◌, ◌<◌, ◌≤◌, ◌&&◌, ◌||◌, nat_le, nat_lt, Bool, true, false, if◌then◌else◌, List, [], ◌∷◌, length}
use Rattle.fc_numbers.specs.declared.places.Span.{Span}
use Rattle.fc_numbers.specs.declared.places.TheConstants.{RAM_START, PAGE}
use Rattle.fc_numbers.specs.declared.spans.TheConstants.{RANGES_MOST, TEXT_MOST}

abbrev pub size_of : Span → ℕ
size_of s = s.end - s.start

abbrev pub holds : Span → ℕ → Bool
holds s place = nat_le s.start place && nat_lt place s.end

-- the place is in text
abbrev pub in_text : List Span → ℕ → Bool
in_text [] place = false
in_text (s ∷ ss) place = holds s place || in_text ss place

-- the bytes of text
abbrev pub text_size : List Span → ℕ
text_size [] = 0
text_size (s ∷ ss) = size_of s + text_size ss

-- the offset of a place of text
abbrev pub offset_in : List Span → ℕ → ℕ
offset_in [] place = 0
offset_in (s ∷ ss) place = if holds s place then place - s.start else size_of s + offset_in ss place

-- the place of the byte at an offset
abbrev pub place_in : List Span → ℕ → ℕ
place_in [] offset = 0
place_in (s ∷ ss) offset = if nat_lt offset (size_of s) then s.start + offset else place_in ss (offset - size_of s)

-- the offset behind the range that holds the byte at an offset
abbrev pub end_in : List Span → ℕ → ℕ
end_in [] offset = 0
end_in (s ∷ ss) offset = if nat_lt offset (size_of s) then size_of s else size_of s + end_in ss (offset - size_of s)

-- whole pages each, in order of place from a place on, a page at least between two
abbrev pub AreRangesFrom : ℕ → List Span → Type 0
AreRangesFrom low [] = Unit {0}
AreRangesFrom low (s ∷ ss) = (low ≤ s.start) × (s.start < s.end) × (s.start % PAGE ≡ 0) × (s.end % PAGE ≡ 0) × AreRangesFrom (s.end + PAGE) ss

-- what the ranges of kernel text are in a memory that ends at a place
pub record IsTextBelow (end : ℕ) (text : List Span) : Type 0 where
  pub few : length text ≤ RANGES_MOST
  pub ranges : AreRangesFrom RAM_START text
  pub size : text_size text ≤ TEXT_MOST
  pub high : (place : ℕ) → in_text text place ≡ true → place < end
