use Rattle.listing_reader.proofs.WrittenLines.{zeros_read}
use Rattle.listing_reader.proofs.laws.zeros_are_read.Goals as goal

pub returns : goal.returns
returns c = zeros_read
