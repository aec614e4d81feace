use Rattle.std.proofs.Common.{◌+◌, List, length, sym, subst}
use Rattle.gstage.specs.Table.{Table}
use Rattle.vcpu_core.specs.Stages.{AreStagesFor}
use Rattle.run_evidence.specs.Config.{Config}
use Rattle.vcpu_core.specs.Rows.{AreAllowedSteps}
use Rattle.vcpu_crew.specs.Rig.{config_of_shared}
use Rattle.vcpu_crew.proofs.Rounds.{stages_there, steps_allowed, turn_between, turn_did, turn_gives, turned_round, vcpu_there}
use Rattle.vcpu_crew.proofs.round.make_turn.Goals as goal

pub turn-turned-requires-clause-number : goal.turn-turned-requires-clause-number
turn-turned-requires-clause-number g c =
    vcpu_there (config_of_shared c.args.rig.now) c.args.pass.now.seat.me.0 c.args.lane.now c.take_board-board.result c.requires.worker c.take_board-board.ensures.board

pub turn-turned-requires-clause-stages : goal.turn-turned-requires-clause-stages
turn-turned-requires-clause-stages g c =
    subst (λ (s : List Table). AreStagesFor c.take_board-board.result.state.ram (length c.args.rig.now.views.apps + 1) s) (sym c.as_slice-stages.ensures.value)
    (stages_there (config_of_shared c.args.rig.now) c.args.pass.now.seat.me.0 c.args.lane.now c.take_board-board.result (length c.args.rig.now.views.apps + 1) c.args.rig.now.stages.items c.requires.rig.config c.requires.worker
    c.take_board-board.ensures.board c.requires.rig.stages)

pub give_board-requires-clause-board : goal.give_board-requires-clause-board
give_board-requires-clause-board g c =
    let cfg : Config = config_of_shared c.args.rig.now in
    let v = c.args.pass.now.seat.me.0 in
    let m = c.take_board-board.new.pass.seat.me.0 in
    let b0 = c.take_board-board.result in
    let b = c.turn-turned.new.board in
    let l = c.args.lane.now in
    let l' = c.turn-turned.new.lane in
    let w = c.requires.worker in
    let e = c.take_board-board.ensures in
    let a : AreAllowedSteps cfg b0.schedule v.logs l.vcpu c.turn-turned.result.steps b l' =
    steps_allowed cfg v l l' b0 b c.args.rig.now.views c.turn-turned.result.steps c.requires.rig.config w c.requires.rig.views e.seen e.board e.lawful e.evidence e.counts c.turn-turned.ensures.kept in
    (turn_gives cfg v m l l' b0.schedule b c.turn-turned.result.steps w e.pass a).board

pub give_board-requires-clause-lawful : goal.give_board-requires-clause-lawful
give_board-requires-clause-lawful g c =
    let cfg : Config = config_of_shared c.args.rig.now in
    let v = c.args.pass.now.seat.me.0 in
    let m = c.take_board-board.new.pass.seat.me.0 in
    let b0 = c.take_board-board.result in
    let b = c.turn-turned.new.board in
    let l = c.args.lane.now in
    let l' = c.turn-turned.new.lane in
    let w = c.requires.worker in
    let e = c.take_board-board.ensures in
    let a : AreAllowedSteps cfg b0.schedule v.logs l.vcpu c.turn-turned.result.steps b l' =
    steps_allowed cfg v l l' b0 b c.args.rig.now.views c.turn-turned.result.steps c.requires.rig.config w c.requires.rig.views e.seen e.board e.lawful e.evidence e.counts c.turn-turned.ensures.kept in
    (turn_gives cfg v m l l' b0.schedule b c.turn-turned.result.steps w e.pass a).lawful

pub give_board-requires-clause-steps : goal.give_board-requires-clause-steps
give_board-requires-clause-steps g c =
    let cfg : Config = config_of_shared c.args.rig.now in
    let v = c.args.pass.now.seat.me.0 in
    let m = c.take_board-board.new.pass.seat.me.0 in
    let b0 = c.take_board-board.result in
    let b = c.turn-turned.new.board in
    let l = c.args.lane.now in
    let l' = c.turn-turned.new.lane in
    let w = c.requires.worker in
    let e = c.take_board-board.ensures in
    let a : AreAllowedSteps cfg b0.schedule v.logs l.vcpu c.turn-turned.result.steps b l' =
    steps_allowed cfg v l l' b0 b c.args.rig.now.views c.turn-turned.result.steps c.requires.rig.config w c.requires.rig.views e.seen e.board e.lawful e.evidence e.counts c.turn-turned.ensures.kept in
    (turn_gives cfg v m l l' b0.schedule b c.turn-turned.result.steps w e.pass a).steps

pub give_board-requires-clause-allowed : goal.give_board-requires-clause-allowed
give_board-requires-clause-allowed g c =
    let cfg : Config = config_of_shared c.args.rig.now in
    let v = c.args.pass.now.seat.me.0 in
    let m = c.take_board-board.new.pass.seat.me.0 in
    let b0 = c.take_board-board.result in
    let b = c.turn-turned.new.board in
    let l = c.args.lane.now in
    let l' = c.turn-turned.new.lane in
    let w = c.requires.worker in
    let e = c.take_board-board.ensures in
    let a : AreAllowedSteps cfg b0.schedule v.logs l.vcpu c.turn-turned.result.steps b l' =
    steps_allowed cfg v l l' b0 b c.args.rig.now.views c.turn-turned.result.steps c.requires.rig.config w c.requires.rig.views e.seen e.board e.lawful e.evidence e.counts c.turn-turned.ensures.kept in
    (turn_gives cfg v m l l' b0.schedule b c.turn-turned.result.steps w e.pass a).allowed

pub returns-clause-did : goal.returns-clause-did
returns-clause-did g c =
    let cfg : Config = config_of_shared c.args.rig.now in
    let v = c.args.pass.now.seat.me.0 in
    let m = c.take_board-board.new.pass.seat.me.0 in
    let b0 = c.take_board-board.result in
    let b = c.turn-turned.new.board in
    let l = c.args.lane.now in
    let l' = c.turn-turned.new.lane in
    let w = c.requires.worker in
    let e = c.take_board-board.ensures in
    let a : AreAllowedSteps cfg b0.schedule v.logs l.vcpu c.turn-turned.result.steps b l' =
    steps_allowed cfg v l l' b0 b c.args.rig.now.views c.turn-turned.result.steps c.requires.rig.config w c.requires.rig.views e.seen e.board e.lawful e.evidence e.counts c.turn-turned.ensures.kept in
    turned_round cfg v l c.give_board.new.pass.seat.me.0 l' c.answer_of.result l.phase c.requires.phase (turn_did cfg v m c.give_board.new.pass.seat.me.0 l l' b0.schedule b0 b c.args.rig.now.views c.turn-turned.result c.answer_of.result w e.seen e.pass e.board c.requires.rig.views a c.give_board.ensures.pass
    c.turn-turned.ensures.exact c.answer_of.ensures)

pub returns-clause-worker : goal.returns-clause-worker
returns-clause-worker g c =
    let cfg : Config = config_of_shared c.args.rig.now in
    let v = c.args.pass.now.seat.me.0 in
    let m = c.take_board-board.new.pass.seat.me.0 in
    let b0 = c.take_board-board.result in
    let b = c.turn-turned.new.board in
    let l = c.args.lane.now in
    let l' = c.turn-turned.new.lane in
    let w = c.requires.worker in
    let e = c.take_board-board.ensures in
    let a : AreAllowedSteps cfg b0.schedule v.logs l.vcpu c.turn-turned.result.steps b l' =
    steps_allowed cfg v l l' b0 b c.args.rig.now.views c.turn-turned.result.steps c.requires.rig.config w c.requires.rig.views e.seen e.board e.lawful e.evidence e.counts c.turn-turned.ensures.kept in
    turn_between cfg v m c.give_board.new.pass.seat.me.0 l l' b0.schedule b c.turn-turned.result.steps w e.counts e.pass a c.give_board.ensures.pass

pub returns-clause-vcpu : goal.returns-clause-vcpu
returns-clause-vcpu g c =
    let cfg : Config = config_of_shared c.args.rig.now in
    let v = c.args.pass.now.seat.me.0 in
    let m = c.take_board-board.new.pass.seat.me.0 in
    let b0 = c.take_board-board.result in
    let b = c.turn-turned.new.board in
    let l = c.args.lane.now in
    let l' = c.turn-turned.new.lane in
    let w = c.requires.worker in
    let e = c.take_board-board.ensures in
    let a : AreAllowedSteps cfg b0.schedule v.logs l.vcpu c.turn-turned.result.steps b l' =
    steps_allowed cfg v l l' b0 b c.args.rig.now.views c.turn-turned.result.steps c.requires.rig.config w c.requires.rig.views e.seen e.board e.lawful e.evidence e.counts c.turn-turned.ensures.kept in
    a.vcpu
