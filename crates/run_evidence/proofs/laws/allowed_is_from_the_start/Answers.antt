use Rattle.run_evidence.proofs.Growing.{allowed_is_from_start}
use Rattle.run_evidence.proofs.laws.allowed_is_from_the_start.Goals as goal

pub returns : goal.returns
returns c = allowed_is_from_start
