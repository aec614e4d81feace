-- The digest of a kernel.
-- SHA-256 is that of FIPS 180-4; what it is taken over is this project's own choice.
use Rattle.std.specs.Prelude.{ℕ, ◌==◌, Bool, not, cond, List, [], ◌++◌, length, flat_map}
use Rattle.std.specs.Int.{w64, to_le_bytes}
use Rattle.sha2.specs.Sha256.{sha256}
use Rattle.fc_numbers.specs.declared.places.Span.{Span}
use Rattle.fc_numbers.specs.Spans.{size_of}
use Rattle.guest_input.specs.declared.image.Function.{Function}
use Rattle.guest_input.specs.Text.{spans_of, bytes_of}
use Rattle.elf_read.specs.declared.parts.ElfParts.{ElfParts}

-- the eight bytes of a number, the lowest first
unfoldable pub eight : ℕ → List ℕ
eight n = to_le_bytes w64 n

-- a number that counts only where there are several ranges
abbrev pub if_several : Bool → ℕ → List ℕ
if_several several n = cond several (eight n) []

abbrev pub place_bytes : Span → List ℕ
place_bytes s = eight s.start ++ eight (size_of s)

abbrev pub start_bytes : Bool → Function → List ℕ
start_bytes several f = if_several several f.at.range ++ eight f.at.offset

abbrev pub has_several : List Span → Bool
has_several spans = not (length spans == 1)

-- the number of ranges, base and length of each, the number of functions, range and offset of each, and the bytes of
-- all ranges; one range is not numbered
abbrev pub digest_text : List Span → List ℕ → List Function → List ℕ
digest_text spans bytes functions = if_several (has_several spans) (length spans) ++ flat_map place_bytes spans
    ++ eight (length functions) ++ flat_map (start_bytes (has_several spans)) functions ++ bytes

unfoldable pub digest_of : ElfParts → List ℕ
digest_of k = sha256 (digest_text (spans_of k.ranges) (bytes_of k.ranges) k.functions)
