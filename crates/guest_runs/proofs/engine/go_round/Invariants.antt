use Rattle.guest_runs.proofs.Rounds.{InRound}
use Rattle.guest_runs.proofs.engine.go_round.Given as goal

abbrev pub invariant-loop-i : goal.invariant-loop-i
invariant-loop-i l = InRound l.initial.core l.core l.went l.i
