use Rattle.listing_reader.proofs.WrittenLines.{heads_read}
use Rattle.listing_reader.proofs.laws.heads_are_read.Goals as goal

pub returns : goal.returns
returns c = heads_read
