use Rattle.run_trace.proofs.Traced.{lawful-trace}
use Rattle.run_trace.proofs.laws.traces_of_runs_are_lawful.Goals as goal

pub returns : goal.returns
returns c = lawful-trace c.steps_count_one.ensures.vcpus
