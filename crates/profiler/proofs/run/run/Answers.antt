use Rattle.std.proofs.Common.{◌≡◌, ap, sym, subst, refl, ◌∙◌, length, Err}
use Rattle.std.proofs.lemmas.Result.{err_from_is_err_and}
use Rattle.std.specs.Option.{option_copied}
use Rattle.guest_board.specs.Board.{Seat}
use Rattle.run_evidence.specs.Config.{Config}
use Rattle.profiler.specs.Profile.{unviewed}
use Rattle.profiler.proofs.Running.{fewer-left, finished, first-turning, inside-may, keeps-turning, never-open, overfull, refused-run, room-first, started}
use Rattle.profiler.proofs.run.run.Goals as goal

pub returns-in_err-meet : goal.returns-in_err-meet
returns-in_err-meet c =
    let p = err_from_is_err_and c.from_residual-in_err-meet.result c.from_residual-in_err-meet.ensures.1 in
    rw (p.1, p.2) (refused-run (unviewed c.args.image.now c.args.setup.now) c.in_err-meet.field-0.0
    (λ e. absurd (room-first c.new-tally.result (option_copied c.as_ref.result) c.new-tally.ensures.names (c.in_err-meet.ensures.many (ap (λ f. Err f) e)))))

pub loop-i-init : goal.loop-i-init
loop-i-init c =
    first-turning c.boards_move.ensures c.args.image.now c.args.setup.now c.requires.setup c.in_ok-board.board c.meet.new.self _ c.in_ok-board.ensures
    (started c.args.image.now c.args.setup.now c.new-tally.result c.meet.new.self c.new-tally.ensures.names c.new-tally.ensures.used c.new-tally.ensures.shared
    (rw c.as_ref.ensures.value at c.in_ok-meet.ensures.met)) refl

pub take_turn-requires-clause-inside : goal.take_turn-requires-clause-inside
take_turn-requires-clause-inside c = inside-may c.loop-i.board.rules c.loop-i.board.state c.in-Some.i c.in-Some.ensures.may_step

pub loop-i-preserved : goal.loop-i-preserved
loop-i-preserved c =
    keeps-turning c.full_steps_begin.ensures c.steps_leave_others.ensures.but_for_reservations c.runs_append.ensures c.boards_move.ensures c.steps_count_one.ensures.vcpus
    (unviewed c.args.image.now c.args.setup.now) c.loop-i.board c.take_turn.new.board c.in-Some.i c.loop-i.last c.loop-i.tally c.take_turn.new.tally
    c.loop-i.invariant c.in-Some.ensures c.in_ok-take_turn.ensures.board c.in_ok-take_turn.ensures.tally

pub loop-i-smaller : goal.loop-i-smaller
loop-i-smaller c =
    fewer-left c.loop-i.board.schedule c.take_turn.new.board.schedule c.in-Some.i (ap (λ (b : Seat). b.schedule) c.in_ok-take_turn.ensures.board)
    (let counted = c.clock-steps.ensures.schedule in let few = c.clock-steps.ensures.few in rw counted at few)

pub returns-in_err-take_turn : goal.returns-in_err-take_turn
returns-in_err-take_turn c =
    let p = err_from_is_err_and c.from_residual-in_err-take_turn.result c.from_residual-in_err-take_turn.ensures.1 in
    rw (p.1, p.2) (refused-run (unviewed c.args.image.now c.args.setup.now) c.in_err-take_turn.field-0.0
    (λ e. overfull c.full_steps_begin.ensures c.steps_leave_others.ensures.but_for_reservations c.runs_append.ensures
    (unviewed c.args.image.now c.args.setup.now) c.loop-i.board c.take_turn.new.board c.in-Some.i c.loop-i.last c.loop-i.tally
    c.loop-i.invariant c.in-Some.ensures c.in_err-take_turn.ensures.board (c.in_err-take_turn.ensures.many (ap (λ f. Err f) e))))

pub returns : goal.returns
returns c =
    finished (unviewed c.args.image.now c.args.setup.now) c.loop-i.board c.loop-i.tally c.loop-i.last c.in-Some-end.end c.loop-i.invariant (sym c.end.ensures ∙ c.in-Some-end.is)

pub unreachable-requires : goal.unreachable-requires
unreachable-requires c =
    never-open c.full_steps_begin.ensures c.idle_runs_have_ended.ensures (unviewed c.args.image.now c.args.setup.now) c.requires.setup c.loop-i.board c.loop-i.tally c.loop-i.last
    c.loop-i.invariant c.in_default.ensures (sym c.end.ensures ∙ c.in-None.is)
