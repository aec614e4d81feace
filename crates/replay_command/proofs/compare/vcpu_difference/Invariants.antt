use Rattle.std.proofs.Common.{◌≡◌, None}
use Rattle.replay_command.specs.Comparisons.{first_difference, vcpus_compared}
use Rattle.replay_command.proofs.compare.vcpu_difference.Given as goal

abbrev pub invariant-loop-i : goal.invariant-loop-i
invariant-loop-i l = first_difference (vcpus_compared l.board.state l.states l.i) ≡ None
