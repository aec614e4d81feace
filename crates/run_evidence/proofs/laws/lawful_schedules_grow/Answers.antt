use Rattle.run_evidence.proofs.Growing.{lawful_grows}
use Rattle.run_evidence.proofs.laws.lawful_schedules_grow.Goals as goal

pub returns : goal.returns
returns c = lawful_grows
