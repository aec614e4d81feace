use Rattle.std.proofs.Common.{◌≡◌, ◌≤◌, ◌+◌, length}
use Rattle.listing_reader.specs.Reading.{halves_read, lines_of_listing, read_from}
use Rattle.listing_reader.proofs.ReadLemmas.{joined}
use Rattle.listing_reader.proofs.reading.read_listing.Given as goal

abbrev pub invariant-loop-rest : goal.invariant-loop-rest
invariant-loop-rest l = record {
  read : joined l.held.items (read_from l.number (length l.held.items) (lines_of_listing l.rest)) ≡ halves_read l.bytes;
  few : l.number + length l.rest ≤ length l.bytes;
}

abbrev pub decreases-loop-rest : goal.decreases-loop-rest
decreases-loop-rest l = length l.rest
