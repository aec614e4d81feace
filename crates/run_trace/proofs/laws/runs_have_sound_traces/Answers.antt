use Rattle.run_trace.proofs.Traced.{sound-trace}
use Rattle.run_trace.proofs.laws.runs_have_sound_traces.Goals as goal

pub returns : goal.returns
returns c = sound-trace c.steps_count_one.ensures.vcpus
