use Rattle.listing_reader.proofs.WrittenLines.{lines_read}
use Rattle.listing_reader.proofs.laws.lines_are_read_in_order.Goals as goal

pub returns : goal.returns
returns c = lines_read
