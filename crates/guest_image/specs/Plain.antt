-- The plain form of an image: an object with entry and either base and text (hexadecimal, any case) or code
-- ([[address,"hex"],..]), and optionally data, as code, and functions ([[address,"name"],..]). The form is this
-- project's own.
use Rattle.std.specs.Prelude.{ℕ, nat_lt, List, [], ◌∷◌, length, codes, Bool, false, not, ◌||◌, if◌then◌else◌, Option, Some, option_map, option_and_then, is_some, Result, Ok}
use Rattle.std.specs.Result.{result_ok}
use Rattle.std.specs.List.{filter}
use Rattle.serde_json.specs.Data.{Data}
use Rattle.serde_json.specs.Find.{get}
use Rattle.hex.specs.Hex.{decode_of}
use Rattle.json_fields.specs.Fields.{is_object, whole_of, string_of, array_of, pair_of, each_of, has_only_keys}
use Rattle.elf_read.specs.declared.laid.Segment.{Segment}
use Rattle.elf_read.specs.declared.laid.NamedPlace.{NamedPlace}
use Rattle.elf_read.specs.Laid.{Layout}
use Rattle.elf_read.specs.Starts.{kept_name}
use Rattle.elf_read.specs.Steps.{◌>>=◌, must, or_fault}
use Rattle.json_fields.specs.Members.{member_as, member_or}
use Rattle.guest_image.specs.declared.image.Field.TheVariants as key
use Rattle.guest_image.specs.declared.image.ImageFault.{ImageFault}
use Rattle.guest_image.specs.declared.image.ImageFault.TheVariants.{Shape}

-- the bytes of a text of hexadecimal digits
unfoldable pub hex_of : Data → Option (List ℕ)
hex_of d = option_and_then (λ text. result_ok (decode_of text)) (string_of d)

-- a name, as it is kept
unfoldable pub plain_name : Data → Option (List ℕ)
plain_name d = option_map kept_name (string_of d)

-- bytes at a place, with no zeros behind them
abbrev pub segment_of_bytes : ℕ → List ℕ → Segment
segment_of_bytes place bytes = record { place = place; bytes = bytes; size = length bytes }

abbrev pub named_place : ℕ → List ℕ → NamedPlace
named_place place name = record { place = place; name = name }

abbrev pub both_of : {A : Type 0} → (Data → Option (List ℕ)) → (ℕ → List ℕ → A) → Data × Data → Option A
both_of f make p = option_and_then (λ place. option_map (make place) (f p.1)) (whole_of p.0)

-- [address,"hex"]
unfoldable pub plain_segment : Data → Option Segment
plain_segment d = option_and_then (both_of hex_of segment_of_bytes) (pair_of d)

-- [address,"name"]
unfoldable pub plain_named_place : Data → Option NamedPlace
plain_named_place d = option_and_then (both_of plain_name named_place) (pair_of d)

-- [[address,"hex"],..]
unfoldable pub segments_of : Data → Option (List Segment)
segments_of d = option_and_then (each_of plain_segment) (array_of d)

abbrev pub is_filled : Segment → Bool
is_filled s = nat_lt 0 s.size

-- the data parts but the empty ones
unfoldable pub plain_parts : Data → Option (List Segment)
plain_parts d = option_map (filter is_filled) (segments_of d)

-- [[address,"name"],..]
unfoldable pub plain_named_places : Data → Option (List NamedPlace)
plain_named_places d = option_and_then (each_of plain_named_place) (array_of d)

abbrev pub image_keys : List (List ℕ)
image_keys = codes "code" ∷ codes "base" ∷ codes "entry" ∷ codes "text" ∷ codes "data" ∷ codes "functions" ∷ []

-- no key but those of an image
unfoldable pub is_image_known : Data → Bool
is_image_known d = has_only_keys image_keys d

unfoldable pub has_key : List ℕ → Data → Bool
has_key name d = is_some (get name d)

-- what stands beside code and entry
unfoldable pub laid_with : List Segment → ℕ → Data → Result Layout ImageFault
laid_with code entry d = do
  parts ← or_fault (Shape key.«Data») (member_or plain_parts [] (codes "data") d)
  named ← or_fault (Shape key.Functions) (member_or plain_named_places [] (codes "functions") d)
  known ← must (Shape key.Other) (is_image_known d)
  Ok (record { code = code; parts = parts; writable = false; named = named; entry = Some entry })

-- with `code`, and so without base and text
unfoldable pub coded_of : Data → Result Layout ImageFault
coded_of d = do
  code ← or_fault (Shape key.Code) (member_as segments_of (codes "code") d)
  base ← must (Shape key.Base) (not (has_key (codes "base") d))
  entry ← or_fault (Shape key.Entry) (member_as whole_of (codes "entry") d)
  text ← must (Shape key.Text) (not (has_key (codes "text") d))
  laid_with code entry d

-- with base and text; where neither is there, `code` is what is missing
unfoldable pub single_of : Data → Result Layout ImageFault
single_of d = do
  some ← must (Shape key.Code) (has_key (codes "base") d || has_key (codes "text") d)
  base ← or_fault (Shape key.Base) (member_as whole_of (codes "base") d)
  entry ← or_fault (Shape key.Entry) (member_as whole_of (codes "entry") d)
  text ← or_fault (Shape key.Text) (member_as hex_of (codes "text") d)
  laid_with (segment_of_bytes base text ∷ []) entry d

-- what the value lays out, or its first key of another form
unfoldable pub plain_of : Data → Result Layout ImageFault
plain_of d = do
  object ← must (Shape key.Other) (is_object d)
  if has_key (codes "code") d then coded_of d else single_of d
