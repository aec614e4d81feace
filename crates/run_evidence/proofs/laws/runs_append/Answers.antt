use Rattle.run_evidence.proofs.Growing.{runs_append}
use Rattle.run_evidence.proofs.laws.runs_append.Goals as goal

pub returns : goal.returns
returns c = runs_append
