-- The kernel of what a file lays out, or the first fault: which kernels are taken is this project's own.
-- Text is one to four ranges of whole pages, everything lies in the machine's largest RAM, and no data in a page of text.
use Rattle.std.specs.Prelude.{ℕ, ◌+◌, ◌-◌, ◌*◌, ◌/◌, ◌%◌, ◌==◌, ◌&&◌, nat_le, nat_lt, Bool, true, not, if◌then◌else◌, List, [], ◌∷◌, ◌++◌, length, map, fold, flat_map, replicate, Option, Some, None, Result, Ok}
use Rattle.std.specs.List.{list_all, list_any}
use Rattle.fc_numbers.specs.declared.places.Span.{Span}
use Rattle.fc_numbers.specs.declared.places.TheConstants.{RAM_START, RAM_MOST, PAGE}
use Rattle.fc_numbers.specs.declared.spans.TheConstants.{RANGES_MOST, TEXT_MOST}
use Rattle.fc_numbers.specs.Spans.{in_text, text_size}
use Rattle.guest_input.specs.declared.limits.TheConstants.{FUNCTIONS_MOST}
use Rattle.guest_input.specs.declared.image.Image.{Image}
use Rattle.guest_input.specs.Accepted.{is_apart}
use Rattle.guest_input.specs.TextIn.{cut}
use Rattle.elf_read.specs.declared.laid.Segment.{Segment}
use Rattle.elf_read.specs.declared.laid.NamedPlace.{NamedPlace}
use Rattle.elf_read.specs.declared.parts.ElfFault.{ElfFault}
use Rattle.elf_read.specs.declared.parts.ElfFault.TheVariants.{NoText, TooManyTexts, WritableText, Misplaced, OddFunction, TooLarge, TooManyFunctions, EntryOutside}
use Rattle.elf_read.specs.declared.parts.ElfParts.{ElfParts}
use Rattle.elf_read.specs.Laid.{Layout}
use Rattle.elf_read.specs.Starts.{functions_in}
use Rattle.elf_read.specs.Steps.{◌>>=◌, must, or_fault}

-- ---- where segments lie

-- the bytes of the whole pages that n bytes take
abbrev pub whole_pages : ℕ → ℕ
whole_pages n = (n + (PAGE - 1)) / PAGE * PAGE

-- with zeros to so many bytes
abbrev pub filled : ℕ → List ℕ → List ℕ
filled size bytes = bytes ++ replicate (size - length bytes) 0

abbrev pub is_some : Segment → Bool
is_some s = nat_lt 0 s.size

-- there is code, and none of it is empty
abbrev pub is_nonempty_code : List Segment → Bool
is_nonempty_code code = nat_lt 0 (length code) && list_all is_some code

-- in the machine's largest RAM, with no more bytes than it has there
abbrev pub is_in_ram : Segment → Bool
is_in_ram s = nat_le (length s.bytes) s.size && nat_le RAM_START s.place && nat_le (s.place + s.size) (RAM_START + RAM_MOST)

abbrev pub is_at_page : Segment → Bool
is_at_page s = s.place % PAGE == 0

-- behind those that stand no higher
abbrev pub put_in_order : List Segment → Segment → List Segment
put_in_order [] s = s ∷ []
put_in_order (t ∷ ts) s = if nat_lt s.place t.place then s ∷ t ∷ ts else t ∷ put_in_order ts s

-- in order of place
abbrev pub in_order : List Segment → List Segment
in_order code = fold put_in_order [] code

abbrev pub pages_of_segment : Segment → Span
pages_of_segment s = record { start = s.place; end = s.place + whole_pages s.size }

-- each begins at or behind a place, and behind the pages of the one before
abbrev pub are_apart_from : ℕ → List Segment → Bool
are_apart_from low [] = true
are_apart_from low (s ∷ ss) = nat_le low s.place && are_apart_from (s.place + whole_pages s.size) ss

-- ---- text

-- two ranges that touch are one
abbrev pub join : Span → List Span → List Span
join s [] = s ∷ []
join s (t ∷ ts) = if s.end == t.start then record { start = s.start; end = t.end } ∷ ts else s ∷ t ∷ ts

abbrev pub joined : List Span → List Span
joined [] = []
joined (s ∷ ss) = join s (joined ss)

-- the ranges of text
unfoldable pub text_spans : List Segment → List Span
text_spans code = joined (map pages_of_segment (in_order code))

-- the bytes of a segment's pages
abbrev pub page_bytes : Segment → List ℕ
page_bytes s = filled (whole_pages s.size) s.bytes

-- the bytes of all ranges
unfoldable pub text_bytes : List Segment → List ℕ
text_bytes code = flat_map page_bytes (in_order code)

-- a data part: the place and the bytes of a segment, with zeros to its size
abbrev pub part_of : Segment → ℕ × List ℕ
part_of s = (s.place, filled s.size s.bytes)

-- in no page of text
abbrev pub is_beside : List Span → Segment → Bool
is_beside spans s = list_all (is_apart (part_of s)) spans

-- all in RAM, and code at pages
abbrev pub are_in_place : List Segment → List Segment → Bool
are_in_place code parts = list_all is_in_ram code && list_all is_at_page code && list_all is_in_ram parts

-- code in pages of its own, and data in none of them
unfoldable pub are_placed : List Segment → List Segment → Bool
are_placed code parts = are_in_place code parts && are_apart_from RAM_START (in_order code) && list_all (is_beside (text_spans code)) parts

-- ---- functions and the first instruction

abbrev pub is_odd_in : List Span → NamedPlace → Bool
is_odd_in spans f = in_text spans f.place && (f.place % 2 == 1)

abbrev pub is_even_in : List Span → ℕ → Bool
is_even_in spans place = in_text spans place && (place % 2 == 0)

-- an even place of text
abbrev pub entry_in : List Span → Option ℕ → Option ℕ
entry_in spans None = None
entry_in spans (Some place) = if is_even_in spans place then Some place else None

-- ---- the kernel

-- the kernel that is laid out with these ranges and its first instruction at this place
abbrev pub kernel_at : Layout → List Span → ℕ → ElfParts
kernel_at l spans entry = record {
  entry = entry;
  ranges = cut spans (text_bytes l.code);
  parts = map part_of l.parts;
  functions = functions_in 0 spans l.named;
}

-- the kernel of a layout whose code may be text in these ranges, or its first fault
unfoldable pub kernel_in : Layout → List Span → Result ElfParts ElfFault
kernel_in l spans = do
  even ← must OddFunction (not (list_any (is_odd_in spans) l.named))
  small ← must TooLarge (nat_le (text_size spans) TEXT_MOST)
  few ← must TooManyFunctions (nat_le (length (functions_in 0 spans l.named)) FUNCTIONS_MOST)
  entry ← or_fault EntryOutside (entry_in spans l.entry)
  Ok (kernel_at l spans entry)

-- the kernel that is laid out, or its first fault
unfoldable pub kernel_of_laid : Layout → Result ElfParts ElfFault
kernel_of_laid l = do
  some ← must NoText (is_nonempty_code l.code)
  few ← must TooManyTexts (nat_le (length l.code) RANGES_MOST)
  closed ← must WritableText (not l.writable)
  placed ← must Misplaced (are_placed l.code l.parts)
  kernel_in l (text_spans l.code)

-- the image that a kernel gives with a digest
abbrev pub image_with : List ℕ → ElfParts → Image
image_with digest k = record { entry = k.entry; ranges = k.ranges; parts = k.parts; functions = k.functions; digest = digest }
