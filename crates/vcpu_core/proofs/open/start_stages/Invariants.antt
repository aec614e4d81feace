use Rattle.vcpu_core.specs.Stages.{AreOfKind, AreStagesFor}
use Rattle.vcpu_core.proofs.open.start_stages.Given as goal

abbrev pub invariant-loop-v : goal.invariant-loop-v
invariant-loop-v l = record { stages : AreStagesFor l.ram l.v l.stages.items; kinds : AreOfKind l.kind l.stages.items }
