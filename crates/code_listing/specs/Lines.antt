-- The lines of a listing. The format is this project's: one space between two fields, a newline at the end of each line.
use Rattle.std.specs.Prelude.{ℕ, ◌+◌, ◌*◌, ◌/◌, ◌%◌, ◌==◌, ℤ, Bool, false, not, if◌then◌else◌, Option, Some, None, List, [], ◌∷◌, ◌++◌, codes}
use Rattle.std.specs.Fmt.{decimal, signed_decimal}
use Rattle.hex.specs.Hex.{encode_lower}
use Rattle.rv_decode.specs.declared.Inst.{Inst}
use Rattle.rv_decode.specs.Rows.{decode_of, decode16_of}
use Rattle.rv_words.specs.Words.{encode_of}
use Rattle.rv_words.specs.Candidates.{candidate_of}
use Rattle.chain_log.specs.Line.{hex}
use Rattle.code_listing.specs.declared.form.Fields.{Fields}
use Rattle.code_listing.specs.declared.items.Item.{Item}
use Rattle.code_listing.specs.declared.items.Item.TheVariants.{Zeros, Wide, Short}
use Rattle.code_listing.specs.Forms.{form_of}
use Rattle.code_listing.specs.Items.{size_of_item}

-- a halfword in four digits of base 16, in lower case
unfoldable pub half_digits : ℕ → List ℕ
half_digits half = encode_lower (half / 256 ∷ half % 256 ∷ [])

-- a field that the instruction has, behind a space
abbrev pub field_text : List ℕ → Option ℤ → List ℕ
field_text name None = []
field_text name (Some n) = codes " " ++ name ++ codes "=" ++ signed_decimal n

unfoldable pub fields_text : Fields → List ℕ
fields_text f = field_text (codes "rd") f.rd ++ field_text (codes "rs1") f.rs1 ++ field_text (codes "rs2") f.rs2 ++ field_text (codes "imm") f.imm ++ field_text (codes "csr") f.csr

-- an instruction, with a star where its own word or halfword is another
unfoldable pub instruction_text : Inst → Bool → List ℕ
instruction_text i other = (form_of i).name ++ fields_text (form_of i).fields ++ (if other then codes " *" else [])

abbrev pub is_encoding : Option ℕ → ℕ → Bool
is_encoding None word = false
is_encoding (Some own) word = own == word

-- what 32 bits mean: the instruction's own word is the least that means it
abbrev pub word_text : Option Inst → ℕ → List ℕ
word_text None word = codes "illegal"
word_text (Some i) word = instruction_text i (not (is_encoding (encode_of i) word))

-- what 16 bits mean: the instruction's own halfword is the least that means it, its candidate
abbrev pub half_text : Option Inst → ℕ → List ℕ
half_text None half = codes "illegal"
half_text (Some i) half = instruction_text i (not (candidate_of i == half))

-- what the line of an item says behind its place
unfoldable pub item_text : Item → List ℕ
item_text (Zeros count) = codes "zero " ++ decimal count
item_text (Wide low high) = half_digits high ++ half_digits low ++ codes " " ++ word_text (decode_of (low + 65536 * high)) (low + 65536 * high)
item_text (Short half) = half_digits half ++ codes " " ++ half_text (decode16_of half) half

abbrev pub item_line : ℕ → Item → List ℕ
item_line place item = hex place ++ codes " " ++ item_text item ++ codes "\n"

-- the lines of items, the first at this place
abbrev pub item_lines : ℕ → List Item → List ℕ
item_lines place [] = []
item_lines place (item ∷ items) = item_line place item ++ item_lines (place + 2 * size_of_item item) items
