use Rattle.std.proofs.Common.{◌≡◌}
use Rattle.vcpu_core.specs.First.{first_lanes}
use Rattle.vcpu_core.proofs.open.start_lanes.Given as goal

abbrev pub invariant-loop-i : goal.invariant-loop-i
invariant-loop-i l = l.lanes.items ≡ first_lanes l.view l.i
