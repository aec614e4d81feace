use Rattle.std.proofs.Common.{◌≡◌, ◌++◌, ◌≤◌, ◌+◌, ◌*◌, List, vec_len}
use Rattle.guest_maker.specs.Program.{Routine, IsProgram, numbered, state_at}
use Rattle.guest_maker.proofs.program.push_all_drawn.Given as goal

abbrev pub invariant-loop-number : goal.invariant-loop-number
invariant-loop-number l =
    ((rs : List Routine) → IsProgram l.fn.program rs → IsProgram l.program (rs ++ numbered l.number l.fn.generator))
    × (l.generator ≡ state_at l.number l.fn.generator) × (vec_len l.program.lines ≤ 78 + 13 * l.number)
