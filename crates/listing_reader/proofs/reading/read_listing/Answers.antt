use Rattle.std.proofs.Common.{arith, length}
use Rattle.listing_reader.specs.Reading.{halves_read}
use Rattle.listing_reader.proofs.ReadLemmas.{read-next, read-start}
use Rattle.listing_reader.proofs.reading.read_listing.Goals as goal

pub loop-rest-init : goal.loop-rest-init
loop-rest-init c = record {
  read = read-start c.new-held.result.items c.args.bytes.now c.new-held.ensures.items;
  few = omega arith;
}

pub loop-rest-preserved : goal.loop-rest-preserved
loop-rest-preserved c = record {
  read = read-next c.loop-rest.number c.loop-rest.held.items c.push_line.new.held.items c.in-Some.line c.loop-rest.rest.now c.in-Some.behind.now (halves_read c.args.bytes.now) c.in_ok-push_line.ensures (omega arith) (c.in-Some.ensures.read c.loop-rest.number (length c.loop-rest.held.items)) c.loop-rest.invariant.read;
  few = omega (arith, c.in-Some.ensures.shorter);
}
