-- The programs of the guest of a number, each with its lines. The first five stand as they are. The bodies of the others
-- are drawn, one function after another: one to four instructions without use, and mostly a call of a function behind.
use Rattle.std.specs.Prelude.{◌≡◌, ℕ, zero, suc, ◌+◌, ◌-◌, ◌*◌, ◌%◌, ◌==◌, ◌&&◌, pos, min, nat_lt, not, if◌then◌else◌, Bool, List, [], ◌∷◌, ◌++◌, length, flat_map, codes}
use Rattle.std.specs.Fmt.{decimal}
use Rattle.rv_decode.specs.declared.Inst.TheVariants.{Addi}
use Rattle.guest_input.specs.declared.image.Function.{Function}
use Rattle.guest_maker.specs.declared.line.Line.{Line}
use Rattle.guest_maker.specs.declared.line.Line.TheVariants.{Plain, Jump}
use Rattle.guest_maker.specs.declared.line.Label.TheVariants.{Numbered}
use Rattle.guest_maker.specs.declared.program.Drawn.{Drawn}
use Rattle.guest_maker.specs.declared.program.Program.{Program}
use Rattle.guest_maker.specs.declared.program.TheConstants.{NUMBERED}
use Rattle.guest_maker.specs.declared.programs.TheConstants.{BOOT, TRAP, SWITCH_TO, RED, BLUE, ENTER, LEAVE, RA, A2}
use Rattle.guest_maker.specs.Generator.{generator_next, answer, generator_after}

-- a function: its name and its lines
pub record Routine : Type 0 where
  pub name : List ℕ
  pub lines : List Line

abbrev pub fixed : List Routine
fixed = record { name = codes "boot"; lines = BOOT }
    ∷ record { name = codes "trap"; lines = TRAP }
    ∷ record { name = codes "switch_to"; lines = SWITCH_TO }
    ∷ record { name = codes "red"; lines = RED }
    ∷ record { name = codes "blue"; lines = BLUE } ∷ []

-- ---- drawn functions

-- so many instructions without use, each with a number of its own below 2,048
abbrev pub idle : ℕ → ℕ → List Line
idle zero s = []
idle (suc n) s = idle n s ++ Plain (Addi A2 A2 (pos (answer (generator_after (suc n) s) % 2048))) ∷ []

-- how many there are: one to four
abbrev pub idle_count : ℕ → ℕ
idle_count s = 1 + answer (generator_next s) % 4

unfoldable pub idle_lines : ℕ → List Line
idle_lines s = idle (idle_count s) (generator_next s)

unfoldable pub behind_idle : ℕ → ℕ
behind_idle s = generator_after (idle_count s) (generator_next s)

-- all functions but the last may call
abbrev pub may_call : ℕ → Bool
may_call k = nat_lt k (NUMBERED - 1)

-- a function that may call does so unless a multiple of three is drawn
abbrev pub calls : ℕ → ℕ → Bool
calls k s = may_call k && not (answer (generator_next s) % 3 == 0)

-- the function that it calls is one of the eight behind it, or of those that there are
abbrev pub callee : ℕ → ℕ → ℕ
callee k s = k + 1 + answer (generator_next s) % min 8 (NUMBERED - 1 - k)

unfoldable pub call_lines : ℕ → ℕ → List Line
call_lines k s = if calls k s then Jump RA (Numbered (callee k (generator_next s))) ∷ [] else []

unfoldable pub behind_call : ℕ → ℕ → ℕ
behind_call k s = if calls k s then generator_next (generator_next s) else if may_call k then generator_next s else s

unfoldable pub drawn_lines : ℕ → ℕ → List Line
drawn_lines k s = ENTER ++ idle_lines s ++ call_lines k (behind_idle s) ++ LEAVE

-- the function of number k, by what is drawn from state s on
abbrev pub drawn_routine : ℕ → ℕ → Routine
drawn_routine k s = record { name = codes "f" ++ decimal k; lines = drawn_lines k s }

abbrev pub behind_routine : ℕ → ℕ → ℕ
behind_routine k s = behind_call k (behind_idle s)

-- the state behind the first n functions
unfoldable pub state_at : ℕ → ℕ → ℕ
state_at zero s = s
state_at (suc n) s = behind_routine n (state_at n s)

-- the first n functions
unfoldable pub numbered : ℕ → ℕ → List Routine
numbered zero s = []
numbered (suc n) s = numbered n s ++ drawn_routine n (state_at n s) ∷ []

-- the four functions that the tasks call are drawn first
abbrev pub drawn_of : ℕ → Drawn
drawn_of s = record { first = answer (generator_after 1 s) % NUMBERED; second = answer (generator_after 2 s) % NUMBERED; third = answer (generator_after 3 s) % NUMBERED; fourth = answer (generator_after 4 s) % NUMBERED }

-- the functions of the guest of a number, in the order in which they stand
unfoldable pub program : ℕ → List Routine
program seed = fixed ++ numbered NUMBERED (generator_after 4 seed)

-- ---- where functions stand

-- the lines of all, one after another
abbrev pub lines_of_routines : List Routine → List Line
lines_of_routines rs = flat_map (λ r. r.lines) rs

abbrev pub function_at_offset : ℕ → List ℕ → Function
function_at_offset offset name = record { at = record { range = 0; offset = offset }; name = name }

-- functions that stand behind so many lines, of four bytes each
abbrev pub functions_behind_lines : ℕ → List Routine → List Function
functions_behind_lines before [] = []
functions_behind_lines before (r ∷ rs) = function_at_offset (4 * before) r.name ∷ functions_behind_lines (before + length r.lines) rs

-- a program of these functions
pub record IsProgram (p : Program) (rs : List Routine) : Type 0 where
  pub lines : p.lines.items ≡ lines_of_routines rs
  pub functions : p.functions ≡ functions_behind_lines 0 rs
