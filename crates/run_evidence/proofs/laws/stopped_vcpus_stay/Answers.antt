use Rattle.run_evidence.proofs.Growing.{stopped_stays}
use Rattle.run_evidence.proofs.laws.stopped_vcpus_stay.Goals as goal

pub returns : goal.returns
returns c = stopped_stays
