use Rattle.std.proofs.Common.{◌≡◌, ℕ}
use Rattle.vcpu_core.specs.World.{go_all}
use Rattle.vcpu_core.specs.Waits.{all_left}
use Rattle.guest_runs.specs.Engine.{rounds_of}
use Rattle.guest_runs.proofs.engine.run_alone.Given as goal

-- some rounds led here
abbrev pub invariant-loop : goal.invariant-loop
invariant-loop l = (rounds : ℕ) × (l.core ≡ go_all l.fn.core (rounds_of 1 rounds))

abbrev pub decreases-loop : goal.decreases-loop
decreases-loop l = all_left l.core
