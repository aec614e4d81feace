use Rattle.std.proofs.Common.{◌≡◌, map}
use Rattle.std.specs.Prelude.{flat_map}
use Rattle.std.specs.List.{range_with_len}
use Rattle.elf_read.specs.Fields.{named_of, symbol_at}
use Rattle.elf_read.proofs.tables.named_in.Given as goal

abbrev pub invariant-loop-n : goal.invariant-loop-n
invariant-loop-n l = l.named ≡ flat_map (named_of l.code l.strings) (map (symbol_at l.file l.table) (range_with_len 0 l.n))
