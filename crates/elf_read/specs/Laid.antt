-- A kernel as its file lays it out, before it is known whether it may be run.
use Rattle.std.specs.Prelude.{ℕ, Bool, List, Option}
use Rattle.elf_read.specs.declared.laid.Segment.{Segment}
use Rattle.elf_read.specs.declared.laid.NamedPlace.{NamedPlace}

-- segments of code and of data parts, whether some code may be written, the places of functions with their names, and the
-- place of the first instruction, where there is one
pub record Layout : Type 0 where
  pub code : List Segment
  pub parts : List Segment
  pub writable : Bool
  pub named : List NamedPlace
  pub entry : Option ℕ
