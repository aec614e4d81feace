use Rattle.std.proofs.Common.{◌≡◌, ◌++◌, replicate}
use Rattle.listing_reader.specs.Reading.{held_from}
use Rattle.listing_reader.proofs.reading.push_zeros.Given as goal

abbrev pub invariant-loop-k : goal.invariant-loop-k
invariant-loop-k l = l.held.items ≡ l.fn.held.items ++ held_from l.at (replicate l.k 0)
