use Rattle.std.proofs.Common.{◌∙◌, ap, rules, sym}
use Rattle.vcpu_core.specs.declared.lane.Phase.{Phase}
use Rattle.vcpu_core.specs.World.{gone, went_in}
use Rattle.vcpu_core.proofs.InRow.{went-rest}
use Rattle.vcpu_core.proofs.Turned.{event-running, event-went}
use Rattle.vcpu_core.proofs.machine.event.Goals as goal

pub returns-in-Running-clause-after : goal.returns-in-Running-clause-after
returns-in-Running-clause-after c = λ lanes.
    event-running c.args.profile.now c.args.table.now c.args.views.now lanes c.args.board.now c.step_once.new.board c.args.lane.now c.step_once.new.lane c.step_once.ensures.board c.step_once.ensures.lane
    ∙ ap (λ (q : Phase). gone (record { profile = c.args.profile.now; groups = c.args.table.now; board = c.args.board.now; paged_views = c.args.views.now; lanes = lanes }) c.args.lane.now.vcpu c.args.lane.now q) (sym c.in-Running.is)

pub returns-in-Running-clause-answer : goal.returns-in-Running-clause-answer
returns-in-Running-clause-answer c = λ lanes.
    c.step_once.ensures.answer
    ∙ event-went c.args.profile.now c.args.table.now c.args.views.now lanes c.args.board.now c.args.lane.now
    ∙ ap (λ (q : Phase). went_in (record { profile = c.args.profile.now; groups = c.args.table.now; board = c.args.board.now; paged_views = c.args.views.now; lanes = lanes }) c.args.lane.now.vcpu c.args.lane.now q) (sym c.in-Running.is)

pub returns-in_default-clause-answer : goal.returns-in_default-clause-answer
returns-in_default-clause-answer c = λ lanes.
    sym (went-rest (record { profile = c.args.profile.now; groups = c.args.table.now; board = c.args.board.now; paged_views = c.args.views.now; lanes = lanes }) c.args.lane.now.vcpu c.args.lane.now c.args.lane.now.phase (search rules))
