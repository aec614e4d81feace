use Rattle.std.proofs.Common.{◌≡◌, take}
use Rattle.vcpu_core.specs.World.{go_all}
use Rattle.guest_runs.proofs.engine.follow.Given as goal

-- the events of the script so far led here
abbrev pub invariant-loop-i : goal.invariant-loop-i
invariant-loop-i l = l.core ≡ go_all l.initial.core (take l.i-index l.script)
