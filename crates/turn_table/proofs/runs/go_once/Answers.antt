use Rattle.std.proofs.Common.{◌∙◌, sym, ap}
use Rattle.function_table.specs.Groups.{groups_of}
use Rattle.turn_table.proofs.Trying.{taken_gives_some, went_board}
use Rattle.turn_table.proofs.runs.go_once.Goals as goal

pub give_board-requires-clause-board : goal.give_board-requires-clause-board
give_board-requires-clause-board g c = (taken_gives_some c.args.pass.now.seat.me.0 c.take_board-board.new.pass.seat.me.0 c.take_board-board.result c.in-Some.board c.args.i c.args.profile.now c.args.groups.now
    c.take_board-board.ensures.pass c.requires.own c.requires.views.4 (c.requires.views.2 ∙ ap groups_of (sym c.requires.views.3)) c.take_board-board.ensures.board c.take_board-board.ensures.lawful c.in_ok-board.board c.in-Some.is c.in_ok-board.ensures).board_is

pub give_board-requires-clause-lawful : goal.give_board-requires-clause-lawful
give_board-requires-clause-lawful g c = (taken_gives_some c.args.pass.now.seat.me.0 c.take_board-board.new.pass.seat.me.0 c.take_board-board.result c.in-Some.board c.args.i c.args.profile.now c.args.groups.now
    c.take_board-board.ensures.pass c.requires.own c.requires.views.4 (c.requires.views.2 ∙ ap groups_of (sym c.requires.views.3)) c.take_board-board.ensures.board c.take_board-board.ensures.lawful c.in_ok-board.board c.in-Some.is c.in_ok-board.ensures).lawful

pub give_board-requires-clause-steps : goal.give_board-requires-clause-steps
give_board-requires-clause-steps g c = (taken_gives_some c.args.pass.now.seat.me.0 c.take_board-board.new.pass.seat.me.0 c.take_board-board.result c.in-Some.board c.args.i c.args.profile.now c.args.groups.now
    c.take_board-board.ensures.pass c.requires.own c.requires.views.4 (c.requires.views.2 ∙ ap groups_of (sym c.requires.views.3)) c.take_board-board.ensures.board c.take_board-board.ensures.lawful c.in_ok-board.board c.in-Some.is c.in_ok-board.ensures).steps

pub give_board-requires-clause-allowed : goal.give_board-requires-clause-allowed
give_board-requires-clause-allowed g c = (taken_gives_some c.args.pass.now.seat.me.0 c.take_board-board.new.pass.seat.me.0 c.take_board-board.result c.in-Some.board c.args.i c.args.profile.now c.args.groups.now
    c.take_board-board.ensures.pass c.requires.own c.requires.views.4 (c.requires.views.2 ∙ ap groups_of (sym c.requires.views.3)) c.take_board-board.ensures.board c.take_board-board.ensures.lawful c.in_ok-board.board c.in-Some.is c.in_ok-board.ensures).allowed

pub returns-in-Some-clause-went : goal.returns-in-Some-clause-went
returns-in-Some-clause-went g c = went_board c.args.pass.now.seat.me.0 c.take_board-board.result.schedule c.in-Some.board.schedule c.take_board-board.new.pass.seat.me.0 c.give_board.new.pass.seat.me.0
    c.take_board-board.ensures.pass c.give_board.ensures.pass
