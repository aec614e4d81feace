use Rattle.std.proofs.Common.{◌∙◌}
use Rattle.turn_table.specs.Passes.{known}
use Rattle.vcpu_crew.proofs.Finishing.{worker_finished}
use Rattle.vcpu_crew.proofs.crew.run_worker.Goals as goal

pub returns : goal.returns
returns g c =
    worker_finished c.args.rig.now.turns c.args.worker.now (c.look.new.pass, c.make_rounds.new.lane) (known c.make_rounds.new.pass) (c.look.ensures.same ∙ (c.make_rounds.ensures.same ∙ c.requires.worker.pass)) c.look.ensures.kept
    c.make_rounds.ensures.worker c.make_rounds.ensures.vcpu c.make_rounds.ensures.stopped c.look.ensures.consistent
