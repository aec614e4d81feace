use Rattle.guest_board.proofs.Parts.{put_down}
use Rattle.guest_board.proofs.open.place_part.Goals as goal

pub returns-clause-after : goal.returns-clause-after
returns-clause-after c =
    put_down c.args.ram.now c.place.new.self c.place_zeros.new.self c.args.at _ c.written-written.result.now c.args.bytes.now c.place.ensures.after (rw (c.at.view_is, c.len.ensures.value) at c.place_zeros.ensures.after) c.written-written.ensures.value c.requires.low c.requires.high
