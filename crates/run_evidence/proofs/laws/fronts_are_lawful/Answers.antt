use Rattle.run_evidence.proofs.Growing
use Rattle.run_evidence.proofs.laws.fronts_are_lawful.Goals as goal

pub returns : goal.returns
returns c = Growing.fronts_are_lawful
