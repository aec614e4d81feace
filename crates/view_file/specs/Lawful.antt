-- What holds of all views that files can write: a digest, starts in order, each once, and names in order.
-- The rule is this project's own.
use Rattle.std.specs.Prelude.{◌≡◌, ◌≤◌, ◌^◌, ◌&&◌, nat_lt, Bool, true, List, [], ◌∷◌, length, map}
use Rattle.std.specs.List.{list_all}
use Rattle.std.specs.List.Sorted.{IsStrictlySortedBy}
use Rattle.hex.specs.Hex.{IsBytes}
use Rattle.fc_numbers.specs.Names.{is_app_name}
use Rattle.fc_numbers.specs.declared.spans.TheConstants.{RANGES_MOST}
use Rattle.guest_input.specs.declared.image.Start.{Start}
use Rattle.guest_input.specs.Starts.{start_cmp}
use Rattle.view_file.specs.declared.views.TheConstants.{APPS_MOST}
use Rattle.view_file.specs.declared.views.App.{App}
use Rattle.view_file.specs.declared.views.Views.{Views}
use Rattle.view_file.specs.Fits.{AreOrdered}

-- a start that a file can write
abbrev pub is_start : Start → Bool
is_start at = nat_lt at.range RANGES_MOST && nat_lt at.offset (2 ^ 32)

-- starts that a file can write, in order, each once
pub record AreListed (starts : List Start) : Type 0 where
  pub ascending : IsStrictlySortedBy start_cmp starts
  pub each : list_all is_start starts ≡ true

-- so are the functions of each app
abbrev pub AreListedBy : List App → Type 0
AreListedBy [] = Unit {0}
AreListedBy (app ∷ apps) = AreListed app.functions × AreListedBy apps

-- what holds of all views: a digest, and what a file can write, in order
pub record IsViews (v : Views) : Type 0 where
  pub text : length v.text ≡ 32
  pub bytes : IsBytes v.text
  pub shared : AreListed v.shared
  pub functions : AreListedBy v.apps
  pub names : list_all is_app_name (map (λ app. app.name) v.apps) ≡ true
  pub ascending : AreOrdered v.apps
  pub few : length v.apps ≤ APPS_MOST
