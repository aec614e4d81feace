use Rattle.std.proofs.Common.{◌≡◌, ◌+◌, ◌-◌, ◌++◌, ◌∷◌, []}
use Rattle.std.specs.Prelude.{flat_map, codes}
use Rattle.std.specs.Int.{w16, to_le_bytes}
use Rattle.guest_maker.specs.declared.hostile.TheConstants.{HEAD, HALVES_FROM, HALVES}
use Rattle.guest_maker.specs.Hostile.{halves, functions_at}
use Rattle.guest_maker.specs.Program.{function_at_offset}
use Rattle.guest_maker.proofs.hostile.draw_hostile.Given as goal

abbrev pub invariant-loop-number : goal.invariant-loop-number
invariant-loop-number l =
    (l.made.text.items ++ flat_map (to_le_bytes w16) (halves (HALVES_FROM + HALVES - l.number) l.generator) ≡ HEAD ++ flat_map (to_le_bytes w16) (halves HALVES l.initial.generator))
    × (l.made.functions ++ functions_at (HALVES_FROM + HALVES - l.number) l.number l.generator ≡ function_at_offset 0 (codes "boot") ∷ functions_at HALVES HALVES_FROM l.initial.generator)
