-- What the code of a fetch keeps: a halfword that is found lies in RAM, and in text where it says so.
use Rattle.std.specs.Prelude.{◌≡◌, true}
use Rattle.guest_ram.specs.Ram.{Ram, is_inside, is_text}
use Rattle.guest_board.specs.declared.fetch.HalfPlace.{HalfPlace}
use Rattle.guest_board.specs.declared.fetch.HalfPlace.TheVariants.{In, Faults, Stops}

abbrev pub HalfInside : Ram → HalfPlace → Type 0
HalfInside ram (In text p) = (is_inside ram p ≡ true) × (is_text ram p ≡ text)
HalfInside ram (Faults cause tval) = Unit {0}
HalfInside ram (Stops stop) = Unit {0}
