use Rattle.std.proofs.Common.{sym, ap, ◌∙◌}
use Rattle.run_evidence.specs.Config.{Config}
use Rattle.vcpu_crew.specs.Rig.{config_of_shared}
use Rattle.vcpu_crew.proofs.Rounds.{looked_stands, mend_between, mend_did, mend_gives, mend_vcpu, mended_round, view_below, table_placed}
use Rattle.vcpu_crew.proofs.round.mend_view.Goals as goal

pub take_view-view-requires-clause-number : goal.take_view-view-requires-clause-number
take_view-view-requires-clause-number g c = view_below (config_of_shared c.args.rig.now) c.args.pass.now.seat.me.0 c.args.lane.now c.requires.worker (looked_stands c.args.lane.now.phase c.requires.phase)

pub mend-requires-clause-placed : goal.mend-requires-clause-placed
mend-requires-clause-placed g c = table_placed (config_of_shared c.args.rig.now) c.args.pass.now.seat.me.0 c.args.lane.now c.args.rig.now.table c.requires.worker c.requires.rig.groups

pub mend-requires-clause-groups : goal.mend-requires-clause-groups
mend-requires-clause-groups g c = ap (λ p. p.groups) c.take_view-view.ensures.view ∙ (ap (λ d. Rattle.run_evidence.specs.Config.image_groups d) c.requires.worker.config ∙ sym c.requires.rig.groups)

pub give_view-requires-clause-number : goal.give_view-requires-clause-number
give_view-requires-clause-number g c =
    (mend_gives (config_of_shared c.args.rig.now) c.args.pass.now.seat.me.0 c.take_view-view.new.pass.seat.me.0 c.args.lane.now c.mend.new.lane c.take_view-view.result c.mend.new.view c.take_view-view.result.log c.mend.result
    (view_below (config_of_shared c.args.rig.now) c.args.pass.now.seat.me.0 c.args.lane.now c.requires.worker (looked_stands c.args.lane.now.phase c.requires.phase))
    c.requires.rig.config c.requires.worker c.take_view-view.ensures.number c.take_view-view.ensures.seen c.take_view-view.ensures.pass c.take_view-view.ensures.view c.mend.ensures.kept).number

pub give_view-requires-clause-taken : goal.give_view-requires-clause-taken
give_view-requires-clause-taken g c =
    (mend_gives (config_of_shared c.args.rig.now) c.args.pass.now.seat.me.0 c.take_view-view.new.pass.seat.me.0 c.args.lane.now c.mend.new.lane c.take_view-view.result c.mend.new.view c.take_view-view.result.log c.mend.result
    (view_below (config_of_shared c.args.rig.now) c.args.pass.now.seat.me.0 c.args.lane.now c.requires.worker (looked_stands c.args.lane.now.phase c.requires.phase))
    c.requires.rig.config c.requires.worker c.take_view-view.ensures.number c.take_view-view.ensures.seen c.take_view-view.ensures.pass c.take_view-view.ensures.view c.mend.ensures.kept).taken

pub give_view-requires-clause-view : goal.give_view-requires-clause-view
give_view-requires-clause-view g c =
    (mend_gives (config_of_shared c.args.rig.now) c.args.pass.now.seat.me.0 c.take_view-view.new.pass.seat.me.0 c.args.lane.now c.mend.new.lane c.take_view-view.result c.mend.new.view c.take_view-view.result.log c.mend.result
    (view_below (config_of_shared c.args.rig.now) c.args.pass.now.seat.me.0 c.args.lane.now c.requires.worker (looked_stands c.args.lane.now.phase c.requires.phase))
    c.requires.rig.config c.requires.worker c.take_view-view.ensures.number c.take_view-view.ensures.seen c.take_view-view.ensures.pass c.take_view-view.ensures.view c.mend.ensures.kept).view

pub give_view-requires-clause-log : goal.give_view-requires-clause-log
give_view-requires-clause-log g c =
    (mend_gives (config_of_shared c.args.rig.now) c.args.pass.now.seat.me.0 c.take_view-view.new.pass.seat.me.0 c.args.lane.now c.mend.new.lane c.take_view-view.result c.mend.new.view c.take_view-view.result.log c.mend.result
    (view_below (config_of_shared c.args.rig.now) c.args.pass.now.seat.me.0 c.args.lane.now c.requires.worker (looked_stands c.args.lane.now.phase c.requires.phase))
    c.requires.rig.config c.requires.worker c.take_view-view.ensures.number c.take_view-view.ensures.seen c.take_view-view.ensures.pass c.take_view-view.ensures.view c.mend.ensures.kept).log

pub returns-clause-did : goal.returns-clause-did
returns-clause-did g c =
    mended_round (config_of_shared c.args.rig.now) c.args.pass.now.seat.me.0 c.args.lane.now c.give_view.new.pass.seat.me.0 c.mend.new.lane c.args.lane.now.phase c.requires.phase (mend_did (config_of_shared c.args.rig.now) c.args.pass.now.seat.me.0 c.take_view-view.new.pass.seat.me.0 c.give_view.new.pass.seat.me.0 c.args.lane.now c.mend.new.lane c.take_view-view.result c.mend.new.view c.take_view-view.result.log
    (view_below (config_of_shared c.args.rig.now) c.args.pass.now.seat.me.0 c.args.lane.now c.requires.worker (looked_stands c.args.lane.now.phase c.requires.phase))
    c.args.rig.now.table c.mend.result c.requires.rig.config c.requires.worker c.requires.rig.groups c.take_view-view.ensures.number c.take_view-view.ensures.seen c.take_view-view.ensures.pass c.take_view-view.ensures.view
    c.mend.ensures.kept c.mend.ensures.view c.mend.ensures.lane c.give_view.ensures.pass)

pub returns-clause-worker : goal.returns-clause-worker
returns-clause-worker g c =
    mend_between (config_of_shared c.args.rig.now) c.args.pass.now.seat.me.0 c.take_view-view.new.pass.seat.me.0 c.give_view.new.pass.seat.me.0 c.args.lane.now c.mend.new.lane c.take_view-view.result c.mend.new.view c.take_view-view.result.log
    (view_below (config_of_shared c.args.rig.now) c.args.pass.now.seat.me.0 c.args.lane.now c.requires.worker (looked_stands c.args.lane.now.phase c.requires.phase))
    c.args.rig.now.table c.mend.result c.requires.rig.config c.requires.worker c.take_view-view.ensures.number c.take_view-view.ensures.seen c.take_view-view.ensures.pass c.take_view-view.ensures.view
    c.mend.ensures.kept c.mend.ensures.lane c.give_view.ensures.pass

pub returns-clause-vcpu : goal.returns-clause-vcpu
returns-clause-vcpu g c = ap (λ l. l.vcpu) c.mend.ensures.lane ∙ mend_vcpu c.args.rig.now.table c.args.lane.now c.args.lane.now.phase
