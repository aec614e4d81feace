use Rattle.std.proofs.Common.{◌∙◌}
use Rattle.turn_table.specs.Passes.{known}
use Rattle.vcpu_crew.specs.Rig.{config_of_shared}
use Rattle.vcpu_crew.proofs.Finishing.{over_stops}
use Rattle.vcpu_crew.proofs.crew.make_rounds.Goals as goal

pub round-requires-clause-same : goal.round-requires-clause-same
round-requires-clause-same g c = λ κs k. c.loop.invariant.2 ∙ c.requires.same

pub round-requires-clause-worker : goal.round-requires-clause-worker
round-requires-clause-worker g c = λ κs k. c.loop.invariant.3

pub returns-in-Over-clause-stopped : goal.returns-in-Over-clause-stopped
returns-in-Over-clause-stopped g c =
    over_stops (config_of_shared c.args.rig.now) (known c.loop.pass) c.loop.lane (known c.round.new.pass) c.round.new.lane c.round.result c.in-Over.is c.round.ensures.vcpu c.round.ensures.did
