use Rattle.std.proofs.Common.{◌+◌, length}
use Rattle.vcpu_core.specs.Turns.{verdict_for}
use Rattle.vcpu_core.proofs.Staged.{stages_kept}
use Rattle.vcpu_core.proofs.Turning.{busy, taken-erases, taken-steps}
use Rattle.vcpu_core.proofs.rows.step_once.Goals as goal

pub returns-in-Step-clause-answer : goal.returns-in-Step-clause-answer
returns-in-Step-clause-answer c =
    taken-steps c.args.board.now.rules (verdict_for c.args.views.now c.args.board.now c.args.lane.now) c.in-Step.hooked c.in-Step.ensures.answer

pub returns-in-End-clause-answer : goal.returns-in-End-clause-answer
returns-in-End-clause-answer c =
    taken-erases c.args.board.now.rules (verdict_for c.args.views.now c.args.board.now c.args.lane.now) _ c.in-End.ensures.answer
    (busy c.args.views.now c.args.board.now c.args.lane.now c.requires.may)

pub returns-in-Step-clause-stages : goal.returns-in-Step-clause-stages
returns-in-Step-clause-stages c =
    stages_kept c.args.board.now.state.ram c.take_step.new.board.state.ram (length c.args.views.now.apps + 1) c.args.stages.now c.in-Step.ensures.keeps c.requires.stages

pub returns-in-End-clause-stages : goal.returns-in-End-clause-stages
returns-in-End-clause-stages c =
    stages_kept c.args.board.now.state.ram c.take_step.new.board.state.ram (length c.args.views.now.apps + 1) c.args.stages.now c.in-End.ensures.keeps c.requires.stages
