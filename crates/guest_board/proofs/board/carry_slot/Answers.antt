use Rattle.std.proofs.Common.{refl}
use Rattle.guest_board.proofs.Stays.{carried_keeps}
use Rattle.guest_board.proofs.board.carry_slot.Goals as goal

pub returns-then-is_none-clause-keeps : goal.returns-then-is_none-clause-keeps
returns-then-is_none-clause-keeps g c = carried_keeps c.args.begun.start c.args.begun.clock _ _ _ c.carry_out-done.ensures.made refl c.text-laid.ensures.laid

pub returns-else-at_hook-2-clause-keeps : goal.returns-else-at_hook-2-clause-keeps
returns-else-at_hook-2-clause-keeps g c = carried_keeps c.args.begun.start c.args.begun.clock _ _ _ c.carry_out-done.ensures.made refl c.text-laid.ensures.laid
