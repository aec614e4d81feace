use Rattle.std.proofs.Common.{◌∙◌}
use Rattle.turn_table.specs.Steps.{TookBoard}
use Rattle.turn_table.proofs.Keeps.{took_shape}
use Rattle.turn_table.proofs.pass.Turns.take_board.Goals as goal

pub exchange-requires : goal.exchange-requires
exchange-requires g c =
    let inv = c.loop.invariant in
    let t : TookBoard c.loop.pass.seat.me c.try_board.new.seat.me = rw c.if-try_board.true at c.try_board.ensures.took in
    (c.try_board.ensures.same ∙ (inv.2 ∙ c.requires.same), (_, took_shape c.try_board.new.seat.me 0 _ _ _ t.5))
