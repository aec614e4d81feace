-- The base of a view: the groups that hold a function listed for its app or shared; every group, for the full view 0.
-- The rule is this project's own: a view may run whole groups of joined functions.
use Rattle.std.specs.Prelude.{ℕ, zero, suc, ◌-◌, ◌==◌, ◌||◌, ◌++◌, Bool, List, [], ◌∷◌, map}
use Rattle.std.specs.List.{list_any, flat_map, range_with_len}
use Rattle.guest_input.specs.declared.image.Start.{Start}
use Rattle.guest_input.specs.Text.{flat_of}
use Rattle.function_table.specs.Groups.{Groups, group_in, groups_count}
use Rattle.view_file.specs.declared.views.App.{App}
use Rattle.view_file.specs.declared.views.Views.{Views}

-- the functions of app n, counted from 0
abbrev pub functions_of_app : List App → ℕ → List Start
functions_of_app [] n = []
functions_of_app (app ∷ apps) zero = app.functions
functions_of_app (app ∷ apps) (suc n) = functions_of_app apps n

-- the functions listed for view n, from 1 on: those of its app and the shared ones
abbrev pub listed_for : Views → ℕ → List Start
listed_for v number = functions_of_app v.apps (number - 1) ++ v.shared

-- every listed function
abbrev pub all_listed : Views → List Start
all_listed v = v.shared ++ flat_map (λ app. app.functions) v.apps

-- the group of a function's start
abbrev pub group_of_start : Groups → Start → ℕ
group_of_start t at = group_in t.starts (flat_of t.text at)

-- the group holds one of these functions
abbrev pub holds_one : Groups → List Start → ℕ → Bool
holds_one t functions group = list_any (λ at. group_of_start t at == group) functions

abbrev pub is_based : Views → Groups → ℕ → ℕ → Bool
is_based v t number group = number == 0 || holds_one t (listed_for v number) group

-- one truth per group, in order
abbrev pub base_of : Views → Groups → ℕ → List Bool
base_of v t number = map (is_based v t number) (range_with_len 0 (groups_count t))
