-- The sizes of views: a line for the whole text and one for each app, each with its functions, groups and bytes.
-- The rule is this project's own: a view has the groups of its base whole, so all functions of a group count, also those
-- that are not listed.
use Rattle.std.specs.Prelude.{ℕ, Bool, false, ◌+◌, if◌then◌else◌, List, [], ◌∷◌, ◌++◌, codes, count_by, decimal, slice_index_or, length}
use Rattle.std.specs.List.{flat_map, range_with_len, sum_by}
use Rattle.fc_numbers.specs.Spans.{size_of}
use Rattle.guest_input.specs.declared.image.Image.{Image}
use Rattle.guest_input.specs.declared.image.Function.{Function}
use Rattle.function_table.specs.Groups.{Groups, groups_count, groups_of, range_of}
use Rattle.view_file.specs.declared.views.App.{App}
use Rattle.view_file.specs.declared.views.Views.{Views}
use Rattle.view_file.specs.Base.{base_of, group_of_start}

-- whether a group is in a base
abbrev pub has_group : List Bool → ℕ → Bool
has_group base g = slice_index_or base g false

-- the functions of the groups of a base
abbrev pub base_functions_count : Groups → List Bool → List Function → ℕ
base_functions_count t base functions = count_by (λ f. has_group base (group_of_start t f.at)) functions

-- the groups of a base
abbrev pub base_groups_count : List Bool → ℕ
base_groups_count base = count_by (λ b. b) base

-- their bytes
abbrev pub bytes_in : Groups → List Bool → ℕ
bytes_in t base = sum_by (λ g. if has_group base g then size_of (range_of t g) else 0) (range_with_len 0 (groups_count t))

-- a name, and the sizes of a base
abbrev pub base_line : Image → List ℕ → List Bool → List ℕ
base_line i name base =
    name ++ codes " " ++ decimal (base_functions_count (groups_of i) base i.functions) ++ codes " " ++ decimal (base_groups_count base) ++ codes " " ++ decimal (bytes_in (groups_of i) base) ++ codes "\n"

-- the line of a view, with a name
abbrev pub size_line : Image → Views → List ℕ → ℕ → List ℕ
size_line i v name view = base_line i name (base_of v (groups_of i) view)

-- the name of the app of view n, from 1 on
abbrev pub name_of_view : Views → ℕ → List ℕ
name_of_view v n = (slice_index_or v.apps n (record { name = []; functions = [] })).name

-- the whole text, which is the full view 0, and then each app, whose view is the next
abbrev pub show_text : Image → Views → List ℕ
show_text i v = size_line i v (codes "text") 0 ++ flat_map (λ n. size_line i v (name_of_view v n) (n + 1)) (range_with_len 0 (length v.apps))
