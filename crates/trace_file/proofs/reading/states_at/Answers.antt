use Rattle.std.proofs.lemmas.Result.{err_from_is_err_and}
use Rattle.trace_file.specs.States.{state_form, states_form}
use Rattle.trace_file.proofs.Loops.{list_on, list_ends, list_done}
use Rattle.trace_file.proofs.reading.states_at.Goals as goal

pub returns-in_err-state : goal.returns-in_err-state
unfolding states_form
returns-in_err-state c =
    let p = err_from_is_err_and c.from_residual.result c.from_residual.ensures.1 in
    rw (p.1, p.2) (list_ends {S = Unit {0}} (λ _ _. state_form) (λ _ _. tt) c.in_err-state.field-0.0 c.states.states.items c.args.vcpus c.states._k tt c.states.rest.now _ c.states-test.true c.in_err-state.ensures c.states.invariant)

pub states-preserved : goal.states-preserved
states-preserved c = rw c.in_ok-push.ensures.items (list_on {S = Unit {0}} (λ _ _. state_form) (λ _ _. tt) c.states.states.items c.args.vcpus c.states._k tt c.states.rest.now c.in_ok-state.state c.in_ok-state.after.now _ c.states-test.true c.in_ok-state.ensures c.states.invariant)

pub returns : goal.returns
unfolding states_form
returns c = list_done {S = Unit {0}} (λ _ _. state_form) (λ _ _. tt) c.states.states.items c.args.vcpus c.states._k tt c.states.rest.now _ c.states-test.false c.states.invariant
