use Rattle.std.proofs.Common.{◌≡◌, map}
use Rattle.std.specs.List.{range_with_len}
use Rattle.elf_read.specs.Fields.{section_at}
use Rattle.elf_read.proofs.tables.sections.Given as goal

abbrev pub invariant-loop-n : goal.invariant-loop-n
invariant-loop-n l = l.sections ≡ map (section_at l.file l.header) (range_with_len 0 l.n)
