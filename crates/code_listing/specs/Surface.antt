-- The surface of views: how much code of the kernel each app's view has as it is built.
-- The format is this project's: a line `full HALVES OPEN PAGES` for the original text, then for each app `APP HALVES OPEN SAME`, all numbers in decimal.
use Rattle.std.specs.Prelude.{ℕ, ◌+◌, ◌*◌, ◌/◌, nat_eq, if◌then◌else◌, Bool, List, [], ◌++◌, codes, count_by, drop, length, map, slice_index_or, sum_by, take}
use Rattle.std.specs.List.{flat_map, range_with_len}
use Rattle.std.specs.Cmp.Lexicographic.{pointwise}
use Rattle.std.specs.Fmt.{decimal}
use Rattle.fc_numbers.specs.Spans.{size_of}
use Rattle.guest_input.specs.declared.image.Image.{Image}
use Rattle.guest_input.specs.Text.{bytes_of}
use Rattle.lane_kernels.specs.Kernels.{is_open}
use Rattle.function_table.specs.Groups.{groups_count, groups_of, half_of, range_of}
use Rattle.view_file.specs.declared.views.App.{App}
use Rattle.view_file.specs.declared.views.Views.{Views}
use Rattle.view_file.specs.Base.{base_of}
use Rattle.view_store.specs.Paged.{PagedView, is_present, mask_of}
use Rattle.code_listing.specs.declared.surface.TheConstants.{PAGE_HALVES}

-- view n of these views, as it is built: the base of its app, and nothing logged
abbrev pub built_view : Image → Views → ℕ → PagedView
built_view i v n = record { number = n; text = bytes_of i.ranges; groups = groups_of i; base = base_of v (groups_of i) n; log = [] }

-- the halfwords of a text
abbrev pub text_halves : List ℕ → List ℕ
text_halves text = map (half_of text) (range_with_len 0 (length text / 2))

-- how many halfwords a view has of group g: none where it is absent
abbrev pub present_size : PagedView → ℕ → ℕ
present_size p g = if is_present p.base p.log g then size_of (range_of p.groups g) / 2 else 0

-- how many halfwords the present groups of a view have
abbrev pub present_halves : PagedView → ℕ
present_halves p = sum_by (present_size p) (range_with_len 0 (groups_count p.groups))

abbrev pub pages_in : List ℕ → ℕ
pages_in halves = length halves / PAGE_HALVES

-- the halfwords of page n
abbrev pub page_of : List ℕ → ℕ → List ℕ
page_of halves n = take PAGE_HALVES (drop (PAGE_HALVES * n) halves)

-- page n is the same in both
abbrev pub is_same_page : List ℕ → List ℕ → ℕ → Bool
is_same_page halves other n = pointwise nat_eq (page_of halves n) (page_of other n)

-- how many pages of the first list are those of the second
abbrev pub same_pages : List ℕ → List ℕ → ℕ
same_pages halves other = count_by (is_same_page halves other) (range_with_len 0 (pages_in halves))

-- a name and three numbers
unfoldable pub figures_line : List ℕ → ℕ → ℕ → ℕ → List ℕ
figures_line name a b c = name ++ codes " " ++ decimal a ++ codes " " ++ decimal b ++ codes " " ++ decimal c ++ codes "\n"

abbrev pub full_line : List ℕ → List ℕ
full_line halves = figures_line (codes "full") (length halves) (count_by is_open halves) (pages_in halves)

abbrev pub no_app : App
no_app = record { name = []; functions = [] }

-- the line of app n, counted from 0: its view is that of the next number
abbrev pub app_line : Image → Views → ℕ → List ℕ
app_line i v n =
    let p = built_view i v (n + 1) in
    figures_line (slice_index_or v.apps n no_app).name (present_halves p) (count_by is_open (mask_of p)) (same_pages (mask_of p) (text_halves p.text))

abbrev pub surface_of : Image → Views → List ℕ
surface_of i v = full_line (text_halves (bytes_of i.ranges)) ++ flat_map (app_line i v) (range_with_len 0 (length v.apps))
