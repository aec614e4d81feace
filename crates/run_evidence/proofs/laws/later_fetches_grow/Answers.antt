use Rattle.run_evidence.proofs.Growing.{allowed_from_grows}
use Rattle.run_evidence.proofs.laws.later_fetches_grow.Goals as goal

pub returns : goal.returns
returns c = allowed_from_grows
