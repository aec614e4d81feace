use Rattle.run_trace.proofs.Zeros.{zeros-reach}
use Rattle.run_trace.proofs.laws.zeros_reach_the_guest.Goals as goal

pub returns : goal.returns
returns c = zeros-reach
