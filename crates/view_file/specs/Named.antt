-- Which view an app name has: view n is that of the n-th app, counted from 1, and view 0 is the full view.
-- The rule is this project's own: a name that no app has, and no name at all, have the full view.
use Rattle.std.specs.Prelude.{ℕ, ◌+◌, List, Option, Some, None}
use Rattle.std.specs.List.{position}
use Rattle.std.specs.Str.{bytes_eq}
use Rattle.view_file.specs.declared.views.App.{App}
use Rattle.view_file.specs.declared.views.Views.{Views}

-- the place of the app of that name, from 0 on
abbrev pub position_of : List ℕ → List App → Option ℕ
position_of name apps = position (λ app. bytes_eq app.name name) apps

-- the view after the place of its app
abbrev pub view_of_position : Option ℕ → ℕ
view_of_position None = 0
view_of_position (Some at) = at + 1

abbrev pub view_named : Views → Option (List ℕ) → ℕ
view_named v None = 0
view_named v (Some name) = view_of_position (position_of name v.apps)
