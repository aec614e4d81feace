-- The union of two views of one kernel text: the functions of both, under each name and shared.
-- The rule is this project's own.
use Rattle.std.specs.Prelude.{◌≡◌, ◌<◌, ◌||◌, ℕ, All, Bool, if◌then◌else◌, List, [], ◌++◌, length, map, Result, Ok, Err}
use Rattle.std.specs.List.{IsDistinct, flat_map, list_any}
use Rattle.std.specs.Str.{bytes_eq}
use Rattle.guest_input.specs.declared.image.Start.{Start}
use Rattle.view_file.specs.declared.views.TheConstants.{APPS_MOST}
use Rattle.view_file.specs.declared.views.App.{App}
use Rattle.view_file.specs.declared.views.Views.{Views}
use Rattle.view_file.specs.declared.fault.ViewFault.{ViewFault}
use Rattle.view_file.specs.declared.fault.ViewFault.TheVariants.{OtherText, TooManyApps, NoMemory}
use Rattle.view_file.specs.Fits.{AreOrdered, IsInOrder}

-- there is an app of this name
abbrev pub has_app : List App → List ℕ → Bool
has_app apps name = list_any (λ app. bytes_eq app.name name) apps

-- the functions that apps list under a name
abbrev pub listed_under : List App → List ℕ → List Start
listed_under apps name = flat_map (λ app. if bytes_eq app.name name then app.functions else []) apps

-- the app has the functions that either list has under its name
abbrev pub HasBoth : List App → List App → App → Type 0
HasBoth a b app = IsInOrder (listed_under (a ++ b) app.name) app.functions

-- apps of different names, each with the functions of both lists
pub record AreJoined (a b apps : List App) : Type 0 where
  pub once : IsDistinct bytes_eq (map (λ app. app.name) apps)
  pub functions : All (HasBoth a b) apps

-- the apps of both lists, in order of their names
pub record AreUnion (a b apps : List App) : Type 0 where
  pub names : (name : List ℕ) → has_app apps name ≡ (has_app a name || has_app b name)
  pub functions : All (HasBoth a b) apps
  pub ascending : AreOrdered apps

-- what merging gives: the union, or the first fault
abbrev pub Merges : Views → Views → Result Views ViewFault → Type 0
Merges a b (Ok v) = (a.text ≡ b.text) × (v.text ≡ a.text) × IsInOrder (a.shared ++ b.shared) v.shared × AreUnion a.apps b.apps v.apps
Merges a b (Err OtherText) = a.text ≡ b.text → ⊥
Merges a b (Err TooManyApps) = (a.text ≡ b.text) × (apps : List App) × AreUnion a.apps b.apps apps × (APPS_MOST < length apps)
Merges a b (Err NoMemory) = Unit {0}
Merges a b (Err fault) = ⊥
