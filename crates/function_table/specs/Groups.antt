-- Functions and groups of a kernel's text, as offsets, which count the bytes of its ranges one after another: the model counts closed starts.
-- A function is joined to the next of its range where its last halfword has low bits 11: by the unprivileged manual ("Base Instruction-Length Encoding") a longer instruction begins there, and it may end in the next function.
use Rattle.std.specs.Prelude.{◌≡◌, ℕ, ◌+◌, ◌-◌, ◌*◌, ◌/◌, ◌%◌, ◌<◌, ◌≤◌, ◌==◌, ◌&&◌, ◌||◌, Bool, true, false, not, nat_lt, nat_le, Contains, List, [], ◌∷◌, length, filter, count_by, slice_index, slice_index_or}
use Rattle.std.specs.List.{list_any}
use Rattle.lane_kernels.specs.Kernels.{is_open}
use Rattle.fc_numbers.specs.declared.places.Span.{Span}
use Rattle.fc_numbers.specs.declared.places.TheConstants.{RAM_START, RAM_MOST}
use Rattle.fc_numbers.specs.Spans.{IsTextBelow, holds, offset_in, place_in, size_of, text_size}
use Rattle.fc_numbers.specs.Spans as spans
use Rattle.guest_input.specs.declared.image.Image.{Image}
use Rattle.guest_input.specs.declared.image.Start.{Start}
use Rattle.guest_input.specs.declared.limits.TheConstants.{FUNCTIONS_MOST}
use Rattle.guest_input.specs.Text.{bytes_of, flat_of, no_span, spans_of}
use Rattle.guest_input.specs.Accepted.{IsAscendingFrom, IsStarts, offsets_of, starts_of}

-- the ranges of text, the offsets of all functions, and the offsets at which the groups after the first begin
pub record Groups : Type 0 where
  pub text : List Span
  pub functions : List ℕ
  pub starts : List ℕ

-- halfword n of a text, little endian
abbrev pub half_of : List ℕ → ℕ → ℕ
half_of text n = slice_index text (2 * n) + 256 * slice_index text (2 * n + 1)

-- a range begins at the offset
abbrev pub begins_range : List Span → ℕ → Bool
begins_range [] offset = false
begins_range (s ∷ ss) offset = offset == 0 || (nat_le (size_of s) offset && begins_range ss (offset - size_of s))

-- a start above 0 is closed where it begins a range, or the halfword before it is not open
abbrev pub is_closed : List Span → List ℕ → ℕ → Bool
is_closed text bytes start = nat_lt 0 start && (begins_range text start || not (is_open (half_of bytes (start / 2 - 1))))

abbrev pub groups_of : Image → Groups
groups_of i =
    let text = spans_of i.ranges in
    let functions = offsets_of text (starts_of i.functions) in
    record { text = text; functions = functions; starts = filter (is_closed text (bytes_of i.ranges)) functions }

-- the group of an offset: how many groups after the first begin at it or below
abbrev pub group_in : List ℕ → ℕ → ℕ
group_in starts offset = count_by (λ start. nat_le start offset) starts

-- the group of a place of text
abbrev pub group_at : Groups → ℕ → ℕ
group_at t place = group_in t.starts (offset_in t.text place)

abbrev pub groups_count : Groups → ℕ
groups_count t = length t.starts + 1

-- the function that holds an offset, counted from 0: the last that starts at it or below
abbrev pub function_in : List ℕ → ℕ → ℕ
function_in functions offset = count_by (λ start. nat_le start offset) functions - 1

-- the function that holds a place of text
abbrev pub function_at : Groups → ℕ → ℕ
function_at t place = function_in t.functions (offset_in t.text place)

abbrev pub in_groups_text : Groups → ℕ → Bool
in_groups_text t place = spans.in_text t.text place

-- the start is at a byte of one of the ranges
abbrev pub has_start : List Span → Start → Bool
has_start text at = nat_lt at.offset (size_of (slice_index_or text at.range no_span))

-- a function starts there
abbrev pub is_function : Groups → Start → Bool
is_function t at = has_start t.text at && list_any (λ start. start == flat_of t.text at) t.functions

abbrev pub is_between : ℕ → ℕ → ℕ → Bool
is_between first end n = nat_le first n && nat_lt n end

-- the offset at which group g begins: the g-th of 0 and the starts
abbrev pub first_of : Groups → ℕ → ℕ
first_of t g = slice_index (0 ∷ t.starts) g

-- the offset at which group g ends: where the next group or text does
abbrev pub last_of : Groups → ℕ → ℕ
last_of t g = slice_index_or t.starts g (text_size t.text)

-- the places of group g: it stands in one range
abbrev pub range_of : Groups → ℕ → Span
range_of t g =
    let start = place_in t.text (first_of t g) in
    record { start = start; end = start + (last_of t g - first_of t g) }

-- the span is whole halfwords of text, and has exactly the places of group g, and so its bytes
pub record IsRangeOf (t : Groups) (g : ℕ) (s : Span) : Type 0 where
  pub some : s.start < s.end
  pub even_start : s.start % 2 ≡ 0
  pub even_end : s.end % 2 ≡ 0
  pub inside : (place : ℕ) → holds s place ≡ true → in_groups_text t place ≡ true
  pub each : (place : ℕ) → in_groups_text t place ≡ true → holds s place ≡ (group_at t place == g)
  pub bytes : (offset : ℕ) → offset < text_size t.text → is_between (offset_in t.text s.start) (offset_in t.text s.start + size_of s) offset ≡ (group_in t.starts offset == g)

-- what holds of the groups of every accepted image
pub record IsGroups (t : Groups) : Type 0 where
  pub text : IsTextBelow (RAM_START + RAM_MOST) t.text
  pub functions : IsStarts t.functions (text_size t.text)
  pub starts : IsAscendingFrom 0 t.starts (text_size t.text)
  -- a group begins where a range after the first does, so that no group goes on from a range to the next
  pub heads : (offset : ℕ) → 0 < offset → begins_range t.text offset ≡ true → Contains t.starts offset
  -- a group begins where a function does
  pub members : (offset : ℕ) → Contains t.starts offset → Contains t.functions offset
  pub few : length t.functions ≤ FUNCTIONS_MOST
  pub fewer : length t.starts < FUNCTIONS_MOST
