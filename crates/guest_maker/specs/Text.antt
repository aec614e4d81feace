-- The text of a program: the word of the instruction on each line, and zeros to whole pages.
use Rattle.std.specs.Prelude.{◌≡◌, ℕ, ◌+◌, ◌*◌, ◌<◌, ℤ, pos, ◌+ℤ◌, ◌-ℤ◌, List, [], ◌∷◌, length, map, unwrap_or, flat_map, slice_index_or, slice_range, slice_get, IsSome}
use Rattle.std.specs.Int.{w32, to_le_bytes, from_le_bytes}
use Rattle.rv_decode.specs.declared.Inst.{Inst}
use Rattle.rv_decode.specs.declared.Inst.TheVariants.{Addi, Jal, Beq}
use Rattle.rv_decode.specs.Rows.{decode_of}
use Rattle.rv_words.specs.Words.{encode_of}
use Rattle.elf_read.specs.Kernel.{filled, whole_pages}
use Rattle.guest_input.specs.declared.image.Function.{Function}
use Rattle.guest_maker.specs.declared.line.Line.{Line}
use Rattle.guest_maker.specs.declared.line.Line.TheVariants.{Plain, AddDistance, Jump, BranchIfEqual}
use Rattle.guest_maker.specs.declared.line.Label.{Label}
use Rattle.guest_maker.specs.declared.line.Label.TheVariants.{Trap, SwitchTo, Red, Blue, First, Second, Third, Fourth, Numbered}
use Rattle.guest_maker.specs.declared.program.Drawn.{Drawn}
use Rattle.guest_maker.specs.declared.text.TheConstants.{FIXED}
use Rattle.guest_maker.specs.Program.{function_at_offset}

-- the position of a function in the program: `boot` has 0
abbrev pub label_number : Drawn → Label → ℕ
label_number drawn Trap = 1
label_number drawn SwitchTo = 2
label_number drawn Red = 3
label_number drawn Blue = 4
label_number drawn First = FIXED + drawn.first
label_number drawn Second = FIXED + drawn.second
label_number drawn Third = FIXED + drawn.third
label_number drawn Fourth = FIXED + drawn.fourth
label_number drawn (Numbered k) = FIXED + k

-- the offset of the function at a position
abbrev pub offset_of : List Function → ℕ → ℕ
offset_of functions n = (slice_index_or functions n (function_at_offset 0 [])).at.offset

abbrev pub target_of : List Function → Drawn → Label → ℕ
target_of functions drawn to = offset_of functions (label_number drawn to)

abbrev pub distance : ℕ → ℕ → ℤ
distance from to = pos to -ℤ pos from

-- the instruction of a line at an offset, where functions have these offsets
abbrev pub instruction_of_line : (Label → ℕ) → ℕ → Line → Inst
instruction_of_line target at (Plain inst) = inst
-- the AUIPC stands one instruction before
instruction_of_line target at (AddDistance rd rs1 to) = Addi rd rs1 (distance at (target to) +ℤ pos 4)
instruction_of_line target at (Jump rd to) = Jal rd (distance at (target to))
instruction_of_line target at (BranchIfEqual rs1 rs2 to) = Beq rs1 rs2 (distance at (target to))

-- the instructions of lines from an offset on
abbrev pub code_from : (Label → ℕ) → ℕ → List Line → List Inst
code_from target at [] = []
code_from target at (l ∷ ls) = instruction_of_line target at l ∷ code_from target (at + 4) ls

-- each instruction from an offset on has its fields in their ranges
abbrev pub AllFit : (Label → ℕ) → ℕ → List Line → Type 0
AllFit target at [] = Unit {0}
AllFit target at (l ∷ ls) = IsSome (encode_of (instruction_of_line target at l)) × AllFit target (at + 4) ls

abbrev pub encoded_word : Inst → ℕ
encoded_word inst = unwrap_or (encode_of inst) 0

-- the bytes of words, and zeros to whole pages
abbrev pub word_bytes : List ℕ → List ℕ
word_bytes words = flat_map (to_le_bytes w32) words

unfoldable pub in_pages : List ℕ → List ℕ
in_pages bytes = filled (whole_pages (length bytes)) bytes

-- the word that stands at an offset of text
abbrev pub word_in_text : List ℕ → ℕ → ℕ
word_in_text text offset = from_le_bytes w32 (slice_range text offset (offset + 4))

-- each instruction is what the word at its place in text decodes to
abbrev pub Decodes : List ℕ → List Inst → Type 0
Decodes text code = (k : ℕ) → k < length code → decode_of (word_in_text text (4 * k)) ≡ slice_get code k
