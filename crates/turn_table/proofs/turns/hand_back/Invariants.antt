use Rattle.std.proofs.Common.{◌-◌, vec_capacity}
use Rattle.std.specs.Slots.{slots_items, slots_filled, slots_len}
use Rattle.turn_table.proofs.Taken.{Taking}
use Rattle.turn_table.proofs.turns.hand_back.Given as goal

abbrev pub invariant-loop-i : goal.invariant-loop-i
invariant-loop-i l = Taking (slots_items l.fn.closed.slots) (slots_items l.closed.slots) (slots_filled l.closed.slots) (slots_len l.closed.slots) l.i l.board l.views.items (vec_capacity l.views)

abbrev pub decreases-loop-i : goal.decreases-loop-i
decreases-loop-i l = slots_len l.closed.slots - l.i
