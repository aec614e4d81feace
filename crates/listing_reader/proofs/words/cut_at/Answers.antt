use Rattle.listing_reader.proofs.Cuts.{cut-nowhere, cut-there}
use Rattle.listing_reader.proofs.words.cut_at.Goals as goal

pub returns-in-Some : goal.returns-in-Some
returns-in-Some c = cut-there c.args.byte c.args.bytes.now c.first_of.result c.in-Some.at c.first_of.ensures c.in-Some.is

pub returns-in-None : goal.returns-in-None
returns-in-None c = cut-nowhere c.args.byte c.args.bytes.now c.first_of.result c.first_of.ensures c.in-None.is
