-- The parts of a `GuestRam` as the memory that contracts see.
use Rattle.guest_ram.specs.declared.GuestRam.TheInside.{Inside}
use Rattle.guest_ram.specs.Ram.{Ram, IsLaid}

abbrev pub ram_of : Inside → Ram
ram_of a = record { bytes = a.bytes.items; text = a.text.items; stamps = a.stamps.items }

abbrev pub IsWell : Inside → Type 0
IsWell a = IsLaid (ram_of a)
