use Rattle.std.proofs.Common.{arith}
use Rattle.run_evidence.specs.Config.{Config}
use Rattle.run_evidence.specs.Growing.{board_of}
use Rattle.turn_table.specs.Steps.{opened_for}
use Rattle.turn_table.proofs.Parts.{closes, closed_with, paged_from, paged_long}
use Rattle.turn_table.proofs.pass.Turns.close.Goals as goal

pub hand_back-requires-clause-slots : goal.hand_back-requires-clause-slots
hand_back-requires-clause-slots c =
    let k : Config = opened_for c.args.self.table.shared.key in
    let t = closes k c.args.pass.seat.id c.args.pass.seat.me.0 _ _ c.args.pass.is_live c.requires.free c.requires.all c.close_with.ensures.values.2 in
    let deep = t.3.deep in let long = paged_long k 0 t.1 in let room = c.args.self.roomy in
    (board_of k t.0, paged_from k 0 t.1, t.2, omega arith)

pub returns-clause-board : goal.returns-clause-board
returns-clause-board c = (closed_with (opened_for c.args.self.table.shared.key) c.args.pass.seat.id c.args.pass.seat.me.0 _ _ c.hand_back.result.0 c.hand_back.result.1.items
    c.args.pass.is_live c.requires.free c.requires.all c.close_with.ensures.values.2 c.hand_back.ensures).board

pub returns-clause-many : goal.returns-clause-many
returns-clause-many c = (closed_with (opened_for c.args.self.table.shared.key) c.args.pass.seat.id c.args.pass.seat.me.0 _ _ c.hand_back.result.0 c.hand_back.result.1.items
    c.args.pass.is_live c.requires.free c.requires.all c.close_with.ensures.values.2 c.hand_back.ensures).many

pub returns-clause-each : goal.returns-clause-each
returns-clause-each c = (closed_with (opened_for c.args.self.table.shared.key) c.args.pass.seat.id c.args.pass.seat.me.0 _ _ c.hand_back.result.0 c.hand_back.result.1.items
    c.args.pass.is_live c.requires.free c.requires.all c.close_with.ensures.values.2 c.hand_back.ensures).each

pub returns-clause-sound : goal.returns-clause-sound
returns-clause-sound c = (closed_with (opened_for c.args.self.table.shared.key) c.args.pass.seat.id c.args.pass.seat.me.0 _ _ c.hand_back.result.0 c.hand_back.result.1.items
    c.args.pass.is_live c.requires.free c.requires.all c.close_with.ensures.values.2 c.hand_back.ensures).sound

pub returns-clause-pass : goal.returns-clause-pass
returns-clause-pass c = (closed_with (opened_for c.args.self.table.shared.key) c.args.pass.seat.id c.args.pass.seat.me.0 _ _ c.hand_back.result.0 c.hand_back.result.1.items
    c.args.pass.is_live c.requires.free c.requires.all c.close_with.ensures.values.2 c.hand_back.ensures).pass
