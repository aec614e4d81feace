use Rattle.turn_table.specs.Steps.{opened_for}
use Rattle.std.proofs.Common.{arith}
use Rattle.turn_table.proofs.Parts.{looks}
use Rattle.turn_table.proofs.pass.Turns.look.Goals as goal

pub load-requires : goal.load-requires
load-requires c =
    let words = c.args.self.now.words in let seat = c.args.pass.now.seat in
    (c.requires, omega arith, looks (opened_for c.args.self.now.table.shared.key) _ _ seat.me c.args.pass.now.is_live)
