use Rattle.vcpu_core.proofs.Run.{stages_serve}
use Rattle.vcpu_core.proofs.laws.stages_serve_every_board.Goals as goal

pub returns : goal.returns
returns c = stages_serve
