use Rattle.std.proofs.Common.{ap, ◌∙◌}
use Rattle.vcpu_crew.specs.Rig.{config_of_shared}
use Rattle.vcpu_crew.proofs.Rounds.{look_between, look_did, look_vcpu, table_placed}
use Rattle.vcpu_crew.proofs.round.look_trap.Goals as goal

pub look_up-requires-clause-placed : goal.look_up-requires-clause-placed
look_up-requires-clause-placed c = table_placed (config_of_shared c.args.rig.now) c.args._pass.now.seat.me.0 c.args.lane.now c.args.rig.now.table c.requires.worker c.requires.rig.groups

pub returns-clause-did : goal.returns-clause-did
returns-clause-did c = look_did (config_of_shared c.args.rig.now) c.args._pass.now.seat.me.0 c.args.lane.now c.look_up.new.lane c.args.rig.now.table c.requires.rig.groups c.requires.phase c.look_up.ensures.exact

pub returns-clause-worker : goal.returns-clause-worker
returns-clause-worker c =
    look_between (config_of_shared c.args.rig.now) c.args._pass.now.seat.me.0 c.args.lane.now c.look_up.new.lane c.args.rig.now.table c.requires.rig.config c.requires.rig.groups c.requires.worker c.look_up.ensures.exact c.look_up.ensures.kept

pub returns-clause-vcpu : goal.returns-clause-vcpu
returns-clause-vcpu c = ap (λ l. l.vcpu) c.look_up.ensures.exact ∙ look_vcpu c.args.rig.now.table c.args.lane.now c.args.lane.now.phase
