use Rattle.std.proofs.Common.{◌≡◌, map}
use Rattle.std.specs.List.{filter, range_with_len}
use Rattle.elf_read.specs.Fields.{is_segment, segment_at}
use Rattle.elf_read.proofs.tables.segments.Given as goal

abbrev pub invariant-loop-n : goal.invariant-loop-n
invariant-loop-n l = l.segments ≡ filter is_segment (map (segment_at l.file l.header) (range_with_len 0 l.n))
