use Rattle.listing_reader.proofs.WrittenLines.{numbers_lines}
use Rattle.listing_reader.proofs.laws.numbers_are_one_line.Goals as goal

pub returns : goal.returns
returns c = numbers_lines
