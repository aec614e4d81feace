use Rattle.std.proofs.Common.{◌≡◌, ◌+◌, ap, sym, ◌∙◌, subst, length, arith}
use Rattle.vcpu_core.specs.declared.lane.Then.TheVariants.{Limit, Over}
use Rattle.view_file.specs.Named.{view_named}
use Rattle.guest_board.specs.Board.{Seat, name_of}
use Rattle.vcpu_core.specs.declared.lane.Lane.{Lane}
use Rattle.vcpu_core.specs.Turns.{board_after, lane_after, verdict_for}
use Rattle.vcpu_core.proofs.Turned.{turns_keep}
use Rattle.vcpu_core.proofs.Staged.{stages_kept}
use Rattle.vcpu_core.proofs.Turning.{IsRunningOn, loop-ended, loop-ends, loop-goes, name-stays, running-on, stuck-board, stuck-ends, stuck-lane, taken-ends, taken-goes, turned_phase}
use Rattle.vcpu_core.proofs.rows.turn.Goals as goal

pub returns-in-End-clause-exact : goal.returns-in-End-clause-exact
returns-in-End-clause-exact c =
    loop-ends c.args.views.now c.args.limit c.loop-steps.steps c.args.board.now c.loop-steps.board c.take_step.new.board c.args.lane.now c.loop-steps.lane c.take_step.new.lane
    c.loop-steps.invariant.exact c.in-End.ensures.board c.in-End.ensures.lane c.in-End.then c.loop-steps-test.true (taken-ends c.loop-steps.board.rules (verdict_for c.args.views.now c.loop-steps.board c.loop-steps.lane) c.in-End.then c.in-End.ensures.answer)

pub returns-in-End-clause-kept : goal.returns-in-End-clause-kept
returns-in-End-clause-kept c =
    turns_keep c.args.views.now c.args.limit c.args.board.now c.take_step.new.board c.args.lane.now c.take_step.new.lane (record { steps = c.loop-steps.steps; then = c.in-End.then }) (returns-in-End-clause-exact c)

pub loop-steps-preserved : goal.loop-steps-preserved
loop-steps-preserved c =
    let none = taken-goes c.loop-steps.board.rules (verdict_for c.args.views.now c.loop-steps.board c.loop-steps.lane) c.in-Step.hooked c.in-Step.ensures.answer in
    let b : c.take_step.new.board ≡ board_after c.args.views.now c.loop-steps.board c.loop-steps.lane = c.in-Step.ensures.board in
    let l : c.take_step.new.lane ≡ lane_after c.args.views.now c.loop-steps.board c.loop-steps.lane = c.in-Step.ensures.lane in
    let on : IsRunningOn c.loop-steps.board (board_after c.args.views.now c.loop-steps.board c.loop-steps.lane) c.loop-steps.lane (lane_after c.args.views.now c.loop-steps.board c.loop-steps.lane) =
    running-on c.args.views.now c.loop-steps.board c.loop-steps.lane (sym none) in
    let here : IsRunningOn c.loop-steps.board c.take_step.new.board c.loop-steps.lane c.take_step.new.lane =
    subst (λ (x : Seat). IsRunningOn c.loop-steps.board x c.loop-steps.lane c.take_step.new.lane) (sym b)
    (subst (λ (y : Lane). IsRunningOn c.loop-steps.board (board_after c.args.views.now c.loop-steps.board c.loop-steps.lane) c.loop-steps.lane y) (sym l) on) in
    record {
      exact = loop-goes c.args.views.now c.args.limit c.loop-steps.steps c.args.board.now c.loop-steps.board c.take_step.new.board c.args.lane.now c.loop-steps.lane c.take_step.new.lane
          c.loop-steps.invariant.exact b l c.loop-steps-test.true none;
      running = here.running;
      number = omega (arith, here.vcpu, here.slots, c.loop-steps.invariant.number);
      view = c.view_after-view.ensures.value;
      within = c.view_after-view.ensures.within;
      stages = stages_kept c.loop-steps.board.state.ram c.take_step.new.board.state.ram (length c.args.views.now.apps + 1) c.args.stages.now c.in-Step.ensures.keeps c.loop-steps.invariant.stages;
    }

pub returns-clause-exact : goal.returns-clause-exact
returns-clause-exact c =
    loop-ended c.args.views.now c.args.limit c.loop-steps.steps c.args.board.now c.loop-steps.board c.args.lane.now c.loop-steps.lane c.loop-steps.invariant.exact (omega arith)

pub returns-clause-kept : goal.returns-clause-kept
returns-clause-kept c =
    turns_keep c.args.views.now c.args.limit c.args.board.now c.loop-steps.board c.args.lane.now c.loop-steps.lane (record { steps = c.args.limit; then = Limit }) (returns-clause-exact c)

pub returns-in-End-clause-phase : goal.returns-in-End-clause-phase
returns-in-End-clause-phase c =
    turned_phase c.args.views.now c.args.limit c.args.board.now c.take_step.new.board c.args.lane.now c.take_step.new.lane (record { steps = c.loop-steps.steps; then = c.in-End.then }) c.requires.phase (returns-in-End-clause-exact c)

pub returns-clause-phase : goal.returns-clause-phase
returns-clause-phase c =
    turned_phase c.args.views.now c.args.limit c.args.board.now c.loop-steps.board c.args.lane.now c.loop-steps.lane (record { steps = c.args.limit; then = Limit }) c.requires.phase (returns-clause-exact c)

pub view_after-view-requires-clause-view : goal.view_after-view-requires-clause-view
view_after-view-requires-clause-view c = λ away.
    let none = taken-goes c.loop-steps.board.rules (verdict_for c.args.views.now c.loop-steps.board c.loop-steps.lane) c.in-Step.hooked c.in-Step.ensures.answer in
    let vcpu : c.take_step.new.lane.vcpu ≡ c.loop-steps.lane.vcpu =
    ap (λ (l : Lane). l.vcpu) c.in-Step.ensures.lane ∙ (running-on c.args.views.now c.loop-steps.board c.loop-steps.lane (sym none)).vcpu in
    subst (λ i. c.loop-steps.view ≡ view_named c.args.views.now (name_of c.take_step.new.board.state i)) (sym vcpu)
    (name-stays c.args.views.now c.loop-steps.board c.take_step.new.board c.loop-steps.lane c.loop-steps.view c.in-Step.hooked c.loop-steps.invariant.number c.loop-steps.invariant.view
    c.in-Step.ensures.board c.in-Step.ensures.answer away)

pub view_after-view-requires-clause-number : goal.view_after-view-requires-clause-number
view_after-view-requires-clause-number c =
    let none = taken-goes c.loop-steps.board.rules (verdict_for c.args.views.now c.loop-steps.board c.loop-steps.lane) c.in-Step.hooked c.in-Step.ensures.answer in
    let on : IsRunningOn c.loop-steps.board (board_after c.args.views.now c.loop-steps.board c.loop-steps.lane) c.loop-steps.lane (lane_after c.args.views.now c.loop-steps.board c.loop-steps.lane) =
    running-on c.args.views.now c.loop-steps.board c.loop-steps.lane (sym none) in
    let vcpu : c.take_step.new.lane.vcpu ≡ c.loop-steps.lane.vcpu = ap (λ (l : Lane). l.vcpu) c.in-Step.ensures.lane ∙ on.vcpu in
    let slots : length c.take_step.new.board.state.slots ≡ length c.loop-steps.board.state.slots = ap (λ (b : Seat). length b.state.slots) c.in-Step.ensures.board ∙ on.slots in
    omega (arith, vcpu, slots, c.loop-steps.invariant.number)

pub returns-then-not-may-clause-exact : goal.returns-then-not-may-clause-exact
returns-then-not-may-clause-exact c =
    loop-ends c.args.views.now c.args.limit c.loop-steps.steps c.args.board.now c.loop-steps.board c.loop-steps.board c.args.lane.now c.loop-steps.lane c.loop-steps.lane
    c.loop-steps.invariant.exact (stuck-board c.args.views.now c.loop-steps.board c.loop-steps.lane (sym c.if-not-may.ensures)) (stuck-lane c.args.views.now c.loop-steps.board c.loop-steps.lane (sym c.if-not-may.ensures))
    Over c.loop-steps-test.true
    (taken-ends c.loop-steps.board.rules (verdict_for c.args.views.now c.loop-steps.board c.loop-steps.lane) Over (stuck-ends c.args.views.now c.loop-steps.board c.loop-steps.lane (sym c.if-not-may.ensures)))

pub returns-then-not-may-clause-kept : goal.returns-then-not-may-clause-kept
returns-then-not-may-clause-kept c =
    turns_keep c.args.views.now c.args.limit c.args.board.now c.loop-steps.board c.args.lane.now c.loop-steps.lane (record { steps = c.loop-steps.steps; then = Over }) (returns-then-not-may-clause-exact c)
