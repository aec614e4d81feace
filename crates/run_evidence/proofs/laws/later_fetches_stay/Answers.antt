use Rattle.run_evidence.proofs.Growing
use Rattle.run_evidence.proofs.laws.later_fetches_stay.Goals as goal

pub returns : goal.returns
returns c = Growing.allowed_from_stays
