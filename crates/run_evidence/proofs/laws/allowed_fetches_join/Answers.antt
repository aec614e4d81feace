use Rattle.run_evidence.proofs.Growing.{allowed_joins}
use Rattle.run_evidence.proofs.laws.allowed_fetches_join.Goals as goal

pub returns : goal.returns
returns c = allowed_joins
