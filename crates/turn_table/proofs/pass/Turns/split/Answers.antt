use Rattle.turn_table.specs.Steps.{opened_for}
use Rattle.std.proofs.Common.{arith}
use Rattle.turn_table.proofs.Parts.{splits}
use Rattle.turn_table.proofs.pass.Turns.split.Goals as goal

pub split_seat-seat-requires : goal.split_seat-seat-requires
split_seat-seat-requires c =
    let words = c.args.self.now.words in let seat = c.args.pass.now.seat in
    (c.requires.same, omega arith, splits (opened_for c.args.self.now.table.shared.key) seat.id seat.me.0 c.args.pass.now.is_live c.requires.free c.requires.several)
