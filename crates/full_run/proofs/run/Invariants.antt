use Rattle.std.proofs.Common.{◌≡◌, []}
use Rattle.run_evidence.specs.Config.{Config}
use Rattle.run_evidence.specs.Growing.{board_of}
use Rattle.full_run.proofs.Steps.{HasMade}
use Rattle.full_run.proofs.run.Given as goal

abbrev pub invariant-loop-i : goal.invariant-loop-i
invariant-loop-i l = (l.made ≡ l.i-index) × ((c : Config) → l.fn.board ≡ board_of c [] → HasMade c l.schedule l.made l.board)
