use Rattle.std.proofs.Common.{refl}
use Rattle.recovery.proofs.tests.a_trap_asks_for_the_group_of_its_place.Goals as goal

pub look-looked-requires : goal.look-looked-requires
look-looked-requires g c = rw (c.in_ok-table.ensures, c.in_ok-image.ensures.spans) refl
