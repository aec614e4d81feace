use Rattle.listing_reader.proofs.ReadLemmas.{zeros-next}
use Rattle.listing_reader.proofs.reading.push_zeros.Goals as goal

pub loop-k-preserved : goal.loop-k-preserved
loop-k-preserved c = zeros-next c.args.held.now.items c.loop-k.held.items c.push_half.new.held.items c.args.at c.loop-k.k c.in_ok-push_half.ensures c.loop-k.invariant
