-- The lines of a listing, without their newlines, and the halfwords that they hold.
-- The format is this project's own. The second word of a line tells its three forms apart:
-- START END NAME for a group, with no halfwords; PLACE `zero` K for K zeros; PLACE HEX and any bytes behind a space for the halfwords of 4 or 8 digits.
use Rattle.std.specs.Prelude.{ℕ, ◌+◌, ◌-◌, ◌*◌, ◌/◌, ◌%◌, ◌^◌, ◌==◌, ◌&&◌, ◌||◌, Bool, true, not, nat_lt, nat_le, if◌then◌else◌, List, [], ◌∷◌, length, take, drop, slice_index, codes, bytes_eq, replicate, Option, Some, None, is_none, option_map}
use Rattle.listing_reader.specs.declared.line.Line.{Line}
use Rattle.listing_reader.specs.declared.line.Line.TheVariants.{Head, Zeros, Wide, Short}
use Rattle.listing_reader.specs.declared.line.TheConstants.{HALVES_MOST, PLACE_DIGITS, COUNT_DIGITS}

-- a step that is taken where the step before gave something
infixl 10 ◌>>=◌
abbrev pub ◌>>=◌ : {A B : Type 0} → Option A → (A → Option B) → Option B
(Some x) >>= f = f x
None >>= f = None

-- a test on the way
abbrev pub only_when : Bool → Option (Unit {0})
only_when test = if test then Some tt else None

-- what stands before the first of these bytes, and what stands behind it
abbrev pub cut_at : ℕ → List ℕ → Option (List ℕ × List ℕ)
cut_at byte [] = None
cut_at byte (b ∷ bytes) = if b == byte then Some ([], bytes) else option_map (λ cut. (b ∷ cut.0, cut.1)) (cut_at byte bytes)

-- 0 to 9, or a to f; 16 where the byte is no digit
abbrev pub digit_value : ℕ → ℕ
digit_value byte =
    if nat_le 0x30 byte && nat_le byte 0x39 then byte - 0x30
    else if nat_le 0x61 byte && nat_le byte 0x66 then byte - 0x57
    else 16

-- the number of these digits of a base, behind those of n
abbrev pub number_behind : ℕ → ℕ → List ℕ → Option ℕ
number_behind base n [] = Some n
number_behind base n (byte ∷ bytes) = if nat_lt (digit_value byte) base then number_behind base (n * base + digit_value byte) bytes else None

abbrev pub number_in : ℕ → List ℕ → Option ℕ
number_in base digits = number_behind base 0 digits

-- one digit or more, and no 0 in front of others
abbrev pub is_printed_number : List ℕ → Bool
is_printed_number digits = nat_lt 0 (length digits) && ((length digits == 1) || not (slice_index digits 0 == 0x30))

-- a number as it is printed, in so many digits at most
abbrev pub printed_number : ℕ → ℕ → List ℕ → Option ℕ
printed_number base most digits = if is_printed_number digits && nat_le (length digits) most then number_in base digits else None

abbrev pub is_place : List ℕ → Bool
is_place word = bytes_eq (take 2 word) (codes "0x")

-- a place: 0x and a number of 64 bits
abbrev pub place_of_word : List ℕ → Option ℕ
place_of_word word = if is_place word then printed_number 16 PLACE_DIGITS (drop 2 word) else None

-- one byte or more, and no space
abbrev pub is_name : List ℕ → Bool
is_name bytes = nat_lt 0 (length bytes) && is_none (cut_at 0x20 bytes)

abbrev pub head_line_of : List ℕ → List ℕ → Option Line
head_line_of word behind = do
  end ← place_of_word word
  named ← only_when (is_name behind)
  Some Head

-- from 1 to the most halfwords of text
abbrev pub zeros_of : ℕ → List ℕ → Option Line
zeros_of at word = do
  count ← printed_number 10 COUNT_DIGITS word
  some ← only_when (nat_le 1 count && nat_le count HALVES_MOST)
  Some (Zeros at count)

abbrev pub digits_of : ℕ → List ℕ → Option Line
digits_of at word =
    if length word == 4 then option_map (λ n. Short at n) (number_in 16 word)
    else if length word == 8 then option_map (λ n. Wide at (n % 65536) (n / 65536)) (number_in 16 word)
    else None

-- the line of a place, the word behind it, and what stands behind that
abbrev pub line_by_form : ℕ → List ℕ → List ℕ → Option Line
line_by_form at word behind =
    if is_place word then head_line_of word behind
    else if bytes_eq word (codes "zero") then zeros_of at behind
    else digits_of at word

-- the halfwords, the first of which is at this place
abbrev pub line_halves : Line → List ℕ
line_halves Head = []
line_halves (Zeros at count) = replicate count 0
line_halves (Wide at low high) = low ∷ high ∷ []
line_halves (Short at half) = half ∷ []

abbrev pub line_place : Line → ℕ
line_place Head = 0
line_place (Zeros at count) = at
line_place (Wide at low high) = at
line_place (Short at half) = at

-- how many these are
abbrev pub line_size : Line → ℕ
line_size Head = 0
line_size (Zeros at count) = count
line_size (Wide at low high) = 2
line_size (Short at half) = 1

-- the place of the last one has 64 bits
abbrev pub is_within_addresses : Line → Bool
is_within_addresses line = nat_lt (line_place line + 2 * (line_size line - 1)) (2 ^ 64)

-- what a line says, where it has a form
unfoldable pub line_of_text : List ℕ → Option Line
line_of_text text = do
  first ← cut_at 0x20 text
  at ← place_of_word first.0
  second ← cut_at 0x20 first.1
  line ← line_by_form at second.0 second.1
  fits ← only_when (is_within_addresses line)
  Some line
