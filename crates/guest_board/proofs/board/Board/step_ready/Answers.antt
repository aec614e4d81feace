use Rattle.guest_board.proofs.Steps.{goes_may}
use Rattle.guest_board.proofs.board.Board.step_ready.Goals as goal

pub go_on-requires-clause-may : goal.go_on-requires-clause-may
go_on-requires-clause-may g c =
    rw c.in-Goes.ensures.stays
    (goes_may c.args.self.now.rules c.args.self.now.state c.args.i c.in-Goes.start c.args.seen.now c.in-Goes.ensures.value)
