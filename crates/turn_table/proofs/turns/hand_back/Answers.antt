use mathlib.Core.Option.{some}
use Rattle.std.proofs.Common.{◌≡◌, ◌+◌, ap, ℕ, vec_capacity, sym, ◌∙◌, subst, arith}
use Rattle.std.specs.Slots.{slots_items, slots_filled, slots_len, slots_counts}
use Rattle.turn_table.proofs.Taken.{Taking, next_view, steps}
use Rattle.turn_table.proofs.turns.hand_back.Goals as goal

pub view_of-requires : goal.view_of-requires
view_of-requires c =
    let slots = c.loop-i.closed.slots in
    let lt = c.loop-i-test.true in let s = c.slot_count.ensures in
    next_view (slots_items c.args.closed.slots) (slots_items slots) (slots_filled slots) (slots_len slots) c.loop-i.i c.in-Some-Board.board c.loop-i.views.items (vec_capacity c.loop-i.views)
    c.loop-i.invariant (omega arith) (slots_counts slots).0 c.take-in-loop-i.result c.take-in-loop-i.ensures.value

pub loop-i-preserved : goal.loop-i-preserved
loop-i-preserved c =
    let slots = c.loop-i.closed.slots in let after = c.take-in-loop-i.new.self.slots in
    let lt = c.loop-i-test.true in let s = c.slot_count.ensures in
    let others = c.take-in-loop-i.ensures.others in
    let len : slots_len slots ≡ slots_len after = sym others.2 in
    subst (λ (n : ℕ). Taking (slots_items c.args.closed.slots) (slots_items after) (slots_filled after) n (c.loop-i.i + 1) c.in-Some-Board.board c.push_reserved.new.self.items (vec_capacity c.push_reserved.new.self)) len
    (steps (slots_items c.args.closed.slots) (slots_items slots) (slots_filled slots) (slots_len slots) c.loop-i.i c.in-Some-Board.board c.loop-i.views.items (vec_capacity c.loop-i.views)
    (slots_filled after) (slots_items after) c.view_of.result c.push_reserved.new.self.items (vec_capacity c.push_reserved.new.self)
    c.loop-i.invariant (omega arith) (slots_counts slots).0 (slots_counts slots).1 (c.take-in-loop-i.ensures.value ∙ ap some c.view_of.ensures) others.0 others.1 c.push_reserved.ensures.items c.push_reserved.ensures.capacity)
