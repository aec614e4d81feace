use Rattle.std.proofs.Common.{◌≡◌, ℕ, ◌-◌, ◌<◌, length}
use Rattle.guest_input.specs.declared.limits.TheConstants.{STEPS_MOST}
use Rattle.profiler.specs.Profile.{unviewed}
use Rattle.profiler.specs.Turning.{IsTurning}
use Rattle.profiler.proofs.run.run.Given as goal

abbrev pub invariant-loop-i : goal.invariant-loop-i
invariant-loop-i l = IsTurning (unviewed l.image l.setup) l.board l.tally l.last

abbrev pub decreases-loop-i : goal.decreases-loop-i
decreases-loop-i l = STEPS_MOST - length l.board.schedule
