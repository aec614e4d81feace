use Rattle.std.proofs.Common.{arith}
use Rattle.turn_table.specs.Steps.{opened_for}
use Rattle.turn_table.proofs.Keeps.{takes_board}
use Rattle.turn_table.proofs.pass.Turns.try_board.Goals as goal

pub compare_exchange-requires : goal.compare_exchange-requires
compare_exchange-requires c = let words = c.args.self.now.words in let seat = c.args.seat.now in
    (c.requires.same, omega arith, takes_board (opened_for c.args.self.now.table.shared.key) _ _ seat.me c.requires.live c.requires.free)
