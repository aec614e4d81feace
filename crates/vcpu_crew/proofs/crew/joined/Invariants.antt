use Rattle.std.proofs.Common.{vec_len}
use Rattle.vcpu_crew.specs.Crew.{AreFinished}
use Rattle.vcpu_crew.proofs.Finishing.{IsJoinedDownTo}
use Rattle.vcpu_crew.proofs.crew.joined.Given as goal

abbrev pub invariant-loop-pass : goal.invariant-loop-pass
invariant-loop-pass l = record {
  finished : AreFinished l.turns l.workers.items;
  joined : IsJoinedDownTo l.turns (vec_len l.workers) (vec_len l.fn.workers) l.all;
}

abbrev pub decreases-loop-pass : goal.decreases-loop-pass
decreases-loop-pass l = vec_len l.workers
