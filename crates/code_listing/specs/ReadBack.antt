-- What a view's listing gives where it is read back: each halfword of the view's present groups, with its place.
use Rattle.std.specs.Prelude.{◌≡◌, ℕ, ◌&&◌, Bool, true, nat_lt, if◌then◌else◌, List, [], length, All, Ok}
use Rattle.std.specs.List.{flat_map, list_all, range_with_len}
use Rattle.hex.specs.Hex.{IsBytes}
use Rattle.fc_numbers.specs.Names.{is_printed}
use Rattle.guest_input.specs.declared.image.Image.{Image}
use Rattle.guest_input.specs.Accepted.{IsImage}
use Rattle.guest_input.specs.Text.{bytes_of}
use Rattle.function_table.specs.Groups.{groups_count, groups_of, range_of}
use Rattle.view_store.specs.Paged.{PagedView, is_present, mask_of}
use Rattle.listing_reader.specs.declared.reading.Held.{Held}
use Rattle.listing_reader.specs.Reading.{halves_read, held_from}
use Rattle.code_listing.specs.Listing.{halves_at, listing_of}

-- the halfwords that a view has of group g, with their places: none where it is absent
abbrev pub held_of_group : PagedView → ℕ → List Held
held_of_group p g = if is_present p.base p.log g then held_from (range_of p.groups g).start (halves_at (mask_of p) p.groups g) else []

-- those of all groups, in order of place
abbrev pub held_of_view : PagedView → List Held
held_of_view p = flat_map (held_of_group p) (range_with_len 0 (groups_count p.groups))

-- one byte or more, each a printed ASCII character that is no space
abbrev pub is_printed_name : List ℕ → Bool
is_printed_name name = nat_lt 0 (length name) && list_all is_printed name

abbrev pub HasPrintedNames : Image → Type 0
HasPrintedNames i = All (λ f. is_printed_name f.name ≡ true) i.functions

-- a listing leaves no present code out, and has no other
abbrev pub ListingsAreReadBack : Type 0
ListingsAreReadBack = (i : Image) (p : PagedView) → IsImage i → HasPrintedNames i → p.groups ≡ groups_of i → p.text ≡ bytes_of i.ranges → IsBytes p.text
    → halves_read (listing_of i p) ≡ Ok (held_of_view p)
