use Rattle.std.proofs.Common.{sym}
use Rattle.std.proofs.lemmas.List.Edits.{map_over_more}
use Rattle.guest_board.specs.Board.{broken}
use Rattle.guest_board.proofs.slot.release_all.Goals as goal

pub loop-slot-preserved : goal.loop-slot-preserved
loop-slot-preserved c =
    rw (c.release.ensures, sym c.slot-item.is)
    (map_over_more (broken c.args.place) c.args.slots.now c.loop-slot.slots c.loop-slot.slot-index c.slot-item.result c.loop-slot-test.true c.loop-slot.invariant c.slot-item.is)
