use Rattle.listing_reader.proofs.WrittenLines.{wides_read}
use Rattle.listing_reader.proofs.laws.wides_are_read.Goals as goal

pub returns : goal.returns
returns c = wides_read
