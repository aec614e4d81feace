use Rattle.std.proofs.Common.{◌≡◌, Some, ◌∷◌, map}
use Rattle.turn_table.specs.declared.known.Guarded.TheVariants.{Board}
use Rattle.turn_table.specs.Rule.{view_slot}
use Rattle.turn_table.proofs.turns.filled.Given as goal

abbrev pub invariant-loop-view : goal.invariant-loop-view
invariant-loop-view l = l.slots.items ≡ Some (Board l.fn.board) ∷ map view_slot l.yielded
