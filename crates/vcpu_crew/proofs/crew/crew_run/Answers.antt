use Rattle.std.proofs.Common.{List, sym, subst, arith, ◌∙◌}
use Rattle.turn_table.specs.declared.pass.Pass.{Pass}
use Rattle.turn_table.specs.Passes.{config_in, known}
use Rattle.vcpu_core.specs.declared.lane.Lane.{Lane}
use Rattle.vcpu_crew.specs.Crew.{AreWorkers}
use Rattle.vcpu_crew.proofs.Finishing.{left_in_place, owns_all, whole_run}
use Rattle.vcpu_crew.proofs.Starting.{first_long, run_by_all, workers_are}
use Rattle.vcpu_crew.proofs.crew.crew_run.Goals as goal

pub run_workers-requires-clause-some : goal.run_workers-requires-clause-some
run_workers-requires-clause-some g c = let e = first_long c.args.rig.shared.turns 0 c.args.rig.workers.items c.requires.workers in let some = c.requires.shared.config.setup.setup.some in omega arith

pub run_workers-requires-clause-workers : goal.run_workers-requires-clause-workers
run_workers-requires-clause-workers g c = λ κs k.
    subst (λ (ws : List (Pass × Lane)). AreWorkers c.args.rig.shared.turns ws) (sym c.as_mut_slice.ensures.value) (workers_are c.args.rig.shared.turns c.args.rig.workers.items c.requires.workers)

pub joined-pass-requires-clause-finished : goal.joined-pass-requires-clause-finished
joined-pass-requires-clause-finished g c =
    left_in_place c.args.rig.shared.turns c.run_workers.new.workers c.args.rig.workers.items c.args.rig.workers.len (c.run_workers.ensures.count ∙ c.as_mut_slice.ensures.len) c.run_workers.ensures.finished

pub close-board-requires-clause-all : goal.close-board-requires-clause-all
close-board-requires-clause-all g c =
    owns_all (config_in c.args.rig.shared.turns) (config_in c.args.rig.shared.turns).setup.vcpus (known c.joined-pass.result)
    (run_by_all c.args.rig.shared.turns c.args.rig.workers.items c.args.rig.workers.len (known c.joined-pass.result) c.requires.workers c.args.rig.workers.ok.0 c.joined-pass.ensures.run)

pub returns-clause-run : goal.returns-clause-run
returns-clause-run g c =
    whole_run (config_in c.args.rig.shared.turns) c.close-board.result.0 c.close-board.result.1.items (known c.joined-pass.result) c.requires.shared.config
    (run_by_all c.args.rig.shared.turns c.args.rig.workers.items c.args.rig.workers.len (known c.joined-pass.result) c.requires.workers c.args.rig.workers.ok.0 c.joined-pass.ensures.run)
    c.close-board.ensures.board c.close-board.ensures.many c.close-board.ensures.each c.close-board.ensures.sound c.close-board.ensures.pass
