use Rattle.std.proofs.Common.{◌≡◌, ◌<◌, ◌∙◌, length, rules, subst, sym}
use Rattle.guest_board.specs.Board.{Seat}
use Rattle.run_evidence.proofs.Steps.{may-slot}
use Rattle.vcpu_core.proofs.Turning.{not_over, zero-board, zero-by, zero-lane}
use Rattle.vcpu_core.proofs.rows.take_step.Goals as goal

pub unreachable-requires : goal.unreachable-requires
unreachable-requires g c = not_over c.args.board.now c.args.lane.now.vcpu c.seat.new.windows c.requires.may c.in-Over.ensures.answer

pub note_trap-requires : goal.note_trap-requires
note_trap-requires g c =
    let same : c.step_ready.new.self ≡ c.args.board.now =
    zero-board c.args.board.now c.step_ready.new.self c.args.lane.now.vcpu c.in-Zero.place _ c.in-Zero.ensures.after (zero-by c.args.board.now.rules _ c.in-Zero.place c.in-Zero.ensures.answer) in
    subst (λ (b : Seat). c.args.lane.now.vcpu < length b.state.slots) (sym same) (may-slot c.args.board.now.rules c.args.board.now.state c.args.lane.now.vcpu c.requires.may)

pub returns-in-Zero-clause-lane : goal.returns-in-Zero-clause-lane
returns-in-Zero-clause-lane g c =
    c.note_trap.ensures ∙ zero-lane c.args.views.now c.args.board.now c.step_ready.new.self c.args.lane.now c.seat.new.windows c.in-Zero.place (search rules) c.in-Zero.ensures.after c.in-Zero.ensures.answer
