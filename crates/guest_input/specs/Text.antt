-- Kernel text as ranges, each a place and its bytes, and the starts of functions in it.
-- A start names a range and the bytes from the start of that range.
use Rattle.std.specs.Prelude.{◌≡◌, ℕ, ◌+◌, ◌%◌, ◌<◌, List, length, map, take, flat_map, slice_index_or}
use Rattle.fc_numbers.specs.declared.places.Span.{Span}
use Rattle.fc_numbers.specs.declared.places.TheConstants.{RAM_START, RAM_MOST}
use Rattle.fc_numbers.specs.Spans.{IsTextBelow, place_in, size_of, text_size}
use Rattle.guest_input.specs.declared.image.Start.{Start}

pub record Range : Type 0 where
  pub base : ℕ
  pub bytes : List ℕ

abbrev pub span_of : Range → Span
span_of r = record { start = r.base; end = r.base + length r.bytes }

-- the places of the ranges
abbrev pub spans_of : List Range → List Span
spans_of ranges = map span_of ranges

-- the bytes of all ranges, one after another
abbrev pub bytes_of : List Range → List ℕ
bytes_of ranges = flat_map (λ r. r.bytes) ranges

-- lawful kernel text in the machine's largest RAM, and its bytes: at least one
pub record AreRanges (spans : List Span) (bytes : List ℕ) : Type 0 where
  pub below : IsTextBelow (RAM_START + RAM_MOST) spans
  pub long : text_size spans ≡ length bytes
  pub some : 0 < length bytes

-- the bytes of the ranges before the n-th
abbrev pub bytes_before : List Span → ℕ → ℕ
bytes_before spans n = text_size (take n spans)

-- the offset of a start in text
abbrev pub flat_of : List Span → Start → ℕ
flat_of spans at = bytes_before spans at.range + at.offset

-- the place of a start
abbrev pub start_place : List Span → Start → ℕ
start_place spans at = place_in spans (flat_of spans at)

abbrev pub no_span : Span
no_span = record { start = 0; end = 0 }

-- the start is at an even byte of one of the ranges
pub record IsStartIn (spans : List Span) (at : Start) : Type 0 where
  pub range : at.range < length spans
  pub inside : at.offset < size_of (slice_index_or spans at.range no_span)
  pub even : at.offset % 2 ≡ 0
