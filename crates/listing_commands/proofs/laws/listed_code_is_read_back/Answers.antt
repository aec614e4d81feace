use Rattle.std.proofs.Common.{refl}
use Rattle.std.specs.Prelude.{Some}
use Rattle.view_file.specs.Named.{view_named}
use Rattle.code_listing.specs.Surface.{built_view}
use Rattle.listing_commands.proofs.laws.listed_code_is_read_back.Goals as goal

pub returns : goal.returns
returns c =
    λ bytes i v app is image small.
    c.listings_are_read_back.ensures i (built_view i v (view_named v (Some app))) image (c.accepted_names_are_printed.ensures bytes i is) refl refl small
