use Rattle.vcpu_core.proofs.Stays.{truthful_lanes_stay}
use Rattle.vcpu_core.proofs.laws.truthful_lanes_stay.Goals as goal

pub returns : goal.returns
returns c = truthful_lanes_stay
