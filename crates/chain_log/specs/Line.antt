-- The line of text of a log entry: AT VCPU APP PC FUNCTION+OFFSET START END, then FUNCTION+OFFSET for each place of the chain.
-- The format is this project's: AT and VCPU in decimal, the others in hexadecimal with 0x, one space between words, a newline at the end.
use Rattle.std.specs.Prelude.{ℕ, ◌-◌, false, List, [], ◌∷◌, ◌++◌, codes, map, slice_index_or}
use Rattle.std.specs.List.{flat_map}
use Rattle.std.specs.Fmt.{decimal, digits}
use Rattle.guest_input.specs.declared.image.Function.{Function}
use Rattle.guest_input.specs.declared.image.Image.{Image}
use Rattle.guest_input.specs.Text.{spans_of, start_place}
use Rattle.function_table.specs.Groups.{function_at, groups_of, range_of}
use Rattle.chain_log.specs.declared.entry.LogEntry.{LogEntry}

-- a number in hexadecimal, in lower case and without leading zeros
abbrev pub hex : ℕ → List ℕ
hex n = codes "0x" ++ digits 16 false n

abbrev pub no_function : Function
no_function = record { at = record { range = 0; offset = 0 }; name = [] }

-- the function that holds a place of text
abbrev pub holder_of : Image → ℕ → Function
holder_of i place = slice_index_or i.functions (function_at (groups_of i) place) no_function

-- a place of text: the name of the function that holds it, and the distance from the function's start
unfoldable pub place_text : Image → ℕ → List ℕ
place_text i place = (holder_of i place).name ++ codes "+" ++ hex (place - start_place (spans_of i.ranges) (holder_of i place).at)

-- words, each behind a space
abbrev pub spaced : List (List ℕ) → List ℕ
spaced words = flat_map (λ word. 32 ∷ word) words

abbrev pub chain_texts : Image → List ℕ → List (List ℕ)
chain_texts i places = map (λ place. place_text i place) places

unfoldable pub line_of : Image → List ℕ → LogEntry → List ℕ
line_of i app e =
    let range = range_of (groups_of i) e.group in
    decimal e.at ++ spaced (decimal e.vcpu ∷ app ∷ hex e.pc ∷ place_text i e.pc ∷ hex range.start ∷ hex range.end ∷ chain_texts i e.chain.items) ++ codes "\n"
