use Rattle.run_evidence.proofs.Growing.{boards_move}
use Rattle.run_evidence.proofs.laws.boards_move.Goals as goal

pub returns : goal.returns
returns c = boards_move
