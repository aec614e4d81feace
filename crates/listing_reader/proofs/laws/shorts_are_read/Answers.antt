use Rattle.listing_reader.proofs.WrittenLines.{shorts_read}
use Rattle.listing_reader.proofs.laws.shorts_are_read.Goals as goal

pub returns : goal.returns
returns c = shorts_read
