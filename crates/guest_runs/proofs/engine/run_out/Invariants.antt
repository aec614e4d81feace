use Rattle.std.proofs.Common.{◌≡◌, ℕ}
use Rattle.vcpu_core.specs.World.{go_all}
use Rattle.vcpu_core.specs.Waits.{all_left}
use Rattle.guest_runs.specs.Engine.{events_of_script}
use Rattle.guest_runs.proofs.engine.run_out.Given as goal

-- the script and some rounds led here
abbrev pub invariant-loop-vcpus : goal.invariant-loop-vcpus
invariant-loop-vcpus l = (rounds : ℕ) × (l.core ≡ go_all l.fn.core (events_of_script l.script l.vcpus rounds))

abbrev pub decreases-loop-vcpus : goal.decreases-loop-vcpus
decreases-loop-vcpus l = all_left l.core
