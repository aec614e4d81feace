use Rattle.std.proofs.Common.{◌∙◌, sym, arith}
use Rattle.std.proofs.lemmas.List.FromFn.{map-range_with_len_more}
use Rattle.guest_board.specs.First.{first_slot}
use Rattle.guest_board.proofs.open.start_slots.Goals as goal

pub loop-i-preserved : goal.loop-i-preserved
loop-i-preserved c =
    c.in_ok-push.ensures.items ∙ rw (c.loop-i.invariant, c.start_slot.ensures) (sym (map-range_with_len_more (first_slot c.args.entry c.args.name.now) 0 c.loop-i.i c.loop-i.i (omega arith)))
