-- What `list` prints, read back: the present code of the app's view.
use Rattle.std.specs.Prelude.{◌≡◌, ℕ, List, Some, Ok}
use Rattle.hex.specs.Hex.{IsBytes}
use Rattle.guest_input.specs.declared.image.Image.{Image}
use Rattle.guest_input.specs.Accepted.{IsImage}
use Rattle.guest_input.specs.Text.{bytes_of}
use Rattle.guest_image.specs.ImageFile.{image_of}
use Rattle.view_file.specs.declared.views.Views.{Views}
use Rattle.view_file.specs.Named.{view_named}
use Rattle.listing_reader.specs.Reading.{halves_read}
use Rattle.code_listing.specs.ReadBack.{HasPrintedNames, held_of_view}
use Rattle.code_listing.specs.Surface.{built_view}
use Rattle.listing_commands.specs.Requests.{listing_for}

-- every accepted image, of either form, has printed names
abbrev pub AcceptedNamesArePrinted : Type 0
AcceptedNamesArePrinted = (bytes : List ℕ) (i : Image) → image_of bytes ≡ Ok i → HasPrintedNames i

-- every halfword of the groups that the app's view has, and nothing else
abbrev pub ListedCodeIsReadBack : Type 0
ListedCodeIsReadBack = (bytes : List ℕ) (i : Image) (v : Views) (app : List ℕ) → image_of bytes ≡ Ok i → IsImage i → IsBytes (bytes_of i.ranges)
    → halves_read (listing_for i v app) ≡ Ok (held_of_view (built_view i v (view_named v (Some app))))
