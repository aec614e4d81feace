-- The listing of a view: for each present group, in order, a line with its places and the name of its first function, and the lines of its items.
use Rattle.std.specs.Prelude.{ℕ, ◌/◌, if◌then◌else◌, List, [], ◌++◌, codes, drop, take}
use Rattle.std.specs.List.{flat_map, range_with_len}
use Rattle.fc_numbers.specs.declared.places.Span.{Span}
use Rattle.fc_numbers.specs.Spans.{offset_in, size_of}
use Rattle.guest_input.specs.declared.image.Image.{Image}
use Rattle.function_table.specs.Groups.{Groups, groups_count, range_of}
use Rattle.chain_log.specs.Line.{hex, holder_of}
use Rattle.view_store.specs.Paged.{PagedView, is_present, mask_of}
use Rattle.code_listing.specs.Items.{items_of}
use Rattle.code_listing.specs.Lines.{item_lines}

-- the halfwords of a group in some pages: as many as its range has, from the offset of its first place on
abbrev pub halves_at : List ℕ → Groups → ℕ → List ℕ
halves_at pages t g = take (size_of (range_of t g) / 2) (drop (offset_in t.text (range_of t g).start / 2) pages)

-- START END NAME
unfoldable pub head_line : Image → Span → List ℕ
head_line i range = hex range.start ++ codes " " ++ hex range.end ++ codes " " ++ (holder_of i range.start).name ++ codes "\n"

-- a group: its places with the name of its first function, and its items
abbrev pub group_text : Image → PagedView → ℕ → List ℕ
group_text i p g = head_line i (range_of p.groups g) ++ item_lines (range_of p.groups g).start (items_of (halves_at (mask_of p) p.groups g))

-- what the listing has of group g: nothing where it is absent
abbrev pub text_of_group : Image → PagedView → ℕ → List ℕ
text_of_group i p g = if is_present p.base p.log g then group_text i p g else []

abbrev pub listing_of : Image → PagedView → List ℕ
listing_of i p = flat_map (text_of_group i p) (range_with_len 0 (groups_count p.groups))
