-- The hostile guest of a number: a boot function that sets the trap vector, a handler that skips two bytes, and drawn
-- halfwords behind them, where any may be an instruction and functions start at drawn places.
use Rattle.std.specs.Prelude.{ℕ, zero, suc, ◌+◌, ◌*◌, ◌%◌, ◌==◌, Bool, if◌then◌else◌, List, [], ◌∷◌, ◌++◌, flat_map, codes}
use Rattle.std.specs.Int.{w16, to_le_bytes}
use Rattle.std.specs.Fmt.{decimal}
use Rattle.guest_input.specs.declared.image.Function.{Function}
use Rattle.guest_maker.specs.declared.hostile.TheConstants.{HEAD, HALVES_FROM, HALVES}
use Rattle.guest_maker.specs.Generator.{generator_next, answer}
use Rattle.guest_maker.specs.Program.{function_at_offset}

-- an eighth of the halfwords is 0
abbrev pub is_zero_drawn : ℕ → Bool
is_zero_drawn s = answer (generator_next s) % 8 == 0

-- the halfword that is drawn from state s on
abbrev pub drawn_half : ℕ → ℕ
drawn_half s = if is_zero_drawn s then 0 else answer (generator_next (generator_next s)) % 65536

abbrev pub behind_half : ℕ → ℕ
behind_half s = if is_zero_drawn s then generator_next s else generator_next (generator_next s)

-- then it is drawn whether a function starts there: at a sixteenth
abbrev pub starts_at : ℕ → Bool
starts_at s = answer (generator_next (behind_half s)) % 16 == 0

abbrev pub behind_half_and_start : ℕ → ℕ
behind_half_and_start s = generator_next (behind_half s)

-- n halfwords
unfoldable pub halves : ℕ → ℕ → List ℕ
halves zero s = []
halves (suc n) s = drawn_half s ∷ halves n (behind_half_and_start s)

-- a function at a halfword
abbrev pub hostile_function : ℕ → Function
hostile_function k = function_at_offset (2 * k) (codes "h" ++ decimal k)

-- the functions that start at n halfwords, the first of number k
unfoldable pub functions_at : ℕ → ℕ → ℕ → List Function
functions_at zero k s = []
functions_at (suc n) k s = if starts_at s then hostile_function k ∷ functions_at n (k + 1) (behind_half_and_start s) else functions_at n (k + 1) (behind_half_and_start s)

unfoldable pub hostile_text : ℕ → List ℕ
hostile_text seed = HEAD ++ flat_map (to_le_bytes w16) (halves HALVES seed)

unfoldable pub hostile_functions : ℕ → List Function
hostile_functions seed = function_at_offset 0 (codes "boot") ∷ functions_at HALVES HALVES_FROM seed
