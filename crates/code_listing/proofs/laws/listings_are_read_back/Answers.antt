use Rattle.code_listing.proofs.GroupsRead.{listing-read}
use Rattle.code_listing.proofs.laws.listings_are_read_back.Goals as goal

pub returns : goal.returns
returns c =
    listing-read
    (record {
      heads = c.heads_are_read.ensures;
      zeros = c.zeros_are_read.ensures;
      shorts = c.shorts_are_read.ensures;
      wides = c.wides_are_read.ensures;
      order = c.lines_are_read_in_order.ensures;
      numbers = c.numbers_are_one_line.ensures;
    })
    c.places_are_in_text.ensures
