use Rattle.trace_file.proofs.Differences.{none_is_same_at}
use Rattle.trace_file.proofs.state.first_difference.Goals as goal

pub returns-clause-same : goal.returns-clause-same
returns-clause-same c = none_is_same_at c.args.left.now c.args.right.now _ (rw (c.values_of_state.ensures, c.values_of_state-2.ensures) at c.first_unequal.ensures.value)
