use Rattle.rv_step.proofs.Untouched.{did_changes_on_next}
use Rattle.rv_step.proofs.laws.only_going_on_changes.Goals as goal

pub returns : goal.returns
returns c = did_changes_on_next
