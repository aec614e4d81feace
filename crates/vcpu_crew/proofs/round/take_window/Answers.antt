use Rattle.std.proofs.Common.{ap, ◌∙◌}
use Rattle.vcpu_crew.specs.Rig.{config_of_shared}
use Rattle.vcpu_crew.proofs.Rounds.{fill_between, fill_did, fill_placed, filled_round, same_gives, view_below, wanting_stands}
use Rattle.vcpu_crew.proofs.round.take_window.Goals as goal

pub take_view-view-requires-clause-number : goal.take_view-view-requires-clause-number
take_view-view-requires-clause-number g c = view_below (config_of_shared c.args.rig.now) c.args.pass.now.seat.me.0 c.args.lane.now c.requires.worker (wanting_stands c.args.lane.now.phase c.requires.phase)

pub fill-requires-clause-placed : goal.fill-requires-clause-placed
fill-requires-clause-placed g c = fill_placed (config_of_shared c.args.rig.now) c.args.pass.now.seat.me.0 c.args.lane.now c.take_view-view.result c.args.lane.now.windows.view c.take_view-view.result.log c.requires.worker c.take_view-view.ensures.view

pub give_view-requires-clause-number : goal.give_view-requires-clause-number
give_view-requires-clause-number g c =
    (same_gives (config_of_shared c.args.rig.now) c.args.pass.now.seat.me.0 c.take_view-view.new.pass.seat.me.0 c.args.lane.now.windows.view c.take_view-view.result.log c.take_view-view.result
    (view_below (config_of_shared c.args.rig.now) c.args.pass.now.seat.me.0 c.args.lane.now c.requires.worker (wanting_stands c.args.lane.now.phase c.requires.phase))
    c.take_view-view.ensures.number c.take_view-view.ensures.pass c.take_view-view.ensures.view).number

pub give_view-requires-clause-taken : goal.give_view-requires-clause-taken
give_view-requires-clause-taken g c =
    (same_gives (config_of_shared c.args.rig.now) c.args.pass.now.seat.me.0 c.take_view-view.new.pass.seat.me.0 c.args.lane.now.windows.view c.take_view-view.result.log c.take_view-view.result
    (view_below (config_of_shared c.args.rig.now) c.args.pass.now.seat.me.0 c.args.lane.now c.requires.worker (wanting_stands c.args.lane.now.phase c.requires.phase))
    c.take_view-view.ensures.number c.take_view-view.ensures.pass c.take_view-view.ensures.view).taken

pub give_view-requires-clause-view : goal.give_view-requires-clause-view
give_view-requires-clause-view g c =
    (same_gives (config_of_shared c.args.rig.now) c.args.pass.now.seat.me.0 c.take_view-view.new.pass.seat.me.0 c.args.lane.now.windows.view c.take_view-view.result.log c.take_view-view.result
    (view_below (config_of_shared c.args.rig.now) c.args.pass.now.seat.me.0 c.args.lane.now c.requires.worker (wanting_stands c.args.lane.now.phase c.requires.phase))
    c.take_view-view.ensures.number c.take_view-view.ensures.pass c.take_view-view.ensures.view).view

pub give_view-requires-clause-log : goal.give_view-requires-clause-log
give_view-requires-clause-log g c =
    (same_gives (config_of_shared c.args.rig.now) c.args.pass.now.seat.me.0 c.take_view-view.new.pass.seat.me.0 c.args.lane.now.windows.view c.take_view-view.result.log c.take_view-view.result
    (view_below (config_of_shared c.args.rig.now) c.args.pass.now.seat.me.0 c.args.lane.now c.requires.worker (wanting_stands c.args.lane.now.phase c.requires.phase))
    c.take_view-view.ensures.number c.take_view-view.ensures.pass c.take_view-view.ensures.view).log

pub returns-clause-did : goal.returns-clause-did
returns-clause-did g c =
    filled_round (config_of_shared c.args.rig.now) c.args.pass.now.seat.me.0 c.args.lane.now c.give_view.new.pass.seat.me.0 c.fill.new.lane c.args.lane.now.phase c.requires.phase (fill_did (config_of_shared c.args.rig.now) c.args.pass.now.seat.me.0 c.take_view-view.new.pass.seat.me.0 c.give_view.new.pass.seat.me.0 c.args.lane.now c.fill.new.lane c.take_view-view.result c.take_view-view.result.log c.requires.worker
    c.take_view-view.ensures.seen c.take_view-view.ensures.pass c.take_view-view.ensures.view c.fill.ensures.exact c.give_view.ensures.pass)

pub returns-clause-worker : goal.returns-clause-worker
returns-clause-worker g c =
    fill_between (config_of_shared c.args.rig.now) c.args.pass.now.seat.me.0 c.take_view-view.new.pass.seat.me.0 c.give_view.new.pass.seat.me.0 c.args.lane.now c.fill.new.lane c.take_view-view.result c.take_view-view.result.log c.requires.rig.config c.requires.worker
    c.take_view-view.ensures.number c.take_view-view.ensures.seen c.take_view-view.ensures.pass c.take_view-view.ensures.view c.fill.ensures.exact c.fill.ensures.kept c.give_view.ensures.pass

pub returns-clause-vcpu : goal.returns-clause-vcpu
returns-clause-vcpu g c = ap (λ l. l.vcpu) c.fill.ensures.exact ∙ Rattle.vcpu_crew.proofs.Rounds.fill_vcpu c.take_view-view.result c.args.lane.now c.args.lane.now.phase
