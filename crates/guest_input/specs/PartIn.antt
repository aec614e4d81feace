-- How the bytes of a data part are kept: those of the file, and a number of zeros behind them.
use Rattle.std.specs.Prelude.{ℕ, ◌+◌, ◌≤◌, List, ◌++◌, length, replicate}
use Rattle.fc_numbers.specs.declared.places.TheConstants.{RAM_MOST}
use Rattle.guest_input.specs.declared.image.PartBytes.TheInside.{Inside}

abbrev pub part_bytes : Inside → List ℕ
part_bytes p = p.written ++ replicate p.zeros 0

abbrev pub IsPart : Inside → Type 0
IsPart p = length p.written + p.zeros ≤ RAM_MOST
