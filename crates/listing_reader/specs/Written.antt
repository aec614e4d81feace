-- Lines as a listing has them, each without its newline: every one is read as what it was written for.
use Rattle.std.specs.Prelude.{◌≡◌, ℕ, ◌+◌, ◌-◌, ◌*◌, ◌^◌, ◌<◌, ◌≤◌, true, false, List, ◌∷◌, ◌++◌, codes, length, Some, None}
use Rattle.std.specs.Fmt.{decimal, digits}
use Rattle.listing_reader.specs.declared.line.Line.{Line}
use Rattle.listing_reader.specs.declared.line.Line.TheVariants.{Head, Zeros, Wide, Short}
use Rattle.listing_reader.specs.declared.line.TheConstants.{HALVES_MOST}
use Rattle.listing_reader.specs.Lines.{cut_at, is_name, line_of_text, number_in}
use Rattle.listing_reader.specs.Reading.{lines_of_listing, read_after, read_from}

-- the bytes have no newline
abbrev pub IsOneLine : List ℕ → Type 0
IsOneLine text = cut_at 0x0a text ≡ None

-- the text is one line, and says this
abbrev pub IsLineOf : Line → List ℕ → Type 0
IsLineOf line text = IsOneLine text × (line_of_text text ≡ Some line)

-- a place in hexadecimal, in lower case and without leading zeros
abbrev pub written_place : ℕ → List ℕ
written_place at = codes "0x" ++ digits 16 false at

-- START END NAME
abbrev pub HeadsAreRead : Type 0
HeadsAreRead = (start end : ℕ) (name : List ℕ) → start < 2 ^ 64 → end < 2 ^ 64 → is_name name ≡ true → IsOneLine name
    → IsLineOf Head (written_place start ++ 0x20 ∷ (written_place end ++ 0x20 ∷ name))

-- PLACE `zero` K
abbrev pub ZerosAreRead : Type 0
ZerosAreRead = (at count : ℕ) → 1 ≤ count → count ≤ HALVES_MOST → at + 2 * (count - 1) < 2 ^ 64
    → IsLineOf (Zeros at count) (written_place at ++ 0x20 ∷ (codes "zero" ++ 0x20 ∷ decimal count))

-- PLACE and four digits, with what stands behind them
abbrev pub ShortsAreRead : Type 0
ShortsAreRead = (at half : ℕ) (word behind : List ℕ) → at < 2 ^ 64 → length word ≡ 4 → number_in 16 word ≡ Some half → IsOneLine behind
    → IsLineOf (Short at half) (written_place at ++ 0x20 ∷ (word ++ 0x20 ∷ behind))

-- PLACE and eight digits, those of the halfword behind first
abbrev pub WidesAreRead : Type 0
WidesAreRead = (at low high : ℕ) (word behind : List ℕ) → at + 2 < 2 ^ 64 → low < 65536 → length word ≡ 8 → number_in 16 word ≡ Some (low + 65536 * high) → IsOneLine behind
    → IsLineOf (Wide at low high) (written_place at ++ 0x20 ∷ (word ++ 0x20 ∷ behind))

-- a line and its newline in front of other bytes
abbrev pub LinesAreReadInOrder : Type 0
LinesAreReadInOrder = (n before : ℕ) (line : Line) (text more : List ℕ) → IsLineOf line text
    → read_from n before (lines_of_listing (text ++ 0x0a ∷ more)) ≡ read_after n before (Some (line, more))

-- printed numbers have no newline
abbrev pub NumbersAreOneLine : Type 0
NumbersAreOneLine = (base n : ℕ) → IsOneLine (digits base false n)
