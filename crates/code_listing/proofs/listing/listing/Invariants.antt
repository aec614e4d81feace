use Rattle.std.proofs.Common.{◌≡◌}
use Rattle.std.specs.List.{flat_map, range_with_len}
use Rattle.code_listing.specs.Listing.{text_of_group}
use Rattle.code_listing.proofs.listing.listing.Given as goal

abbrev pub invariant-loop-g : goal.invariant-loop-g
invariant-loop-g l = l.out.items ≡ flat_map (text_of_group l.image l.view) (range_with_len 0 l.g)
