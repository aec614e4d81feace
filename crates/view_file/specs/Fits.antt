-- The views of what a file writes, and what holds of views that were accepted for an image.
-- The rule is this project's own: lists in order, each start and each name once, and every function one of the image's.
use Rattle.std.specs.Prelude.{◌≡◌, ℕ, ◌≤◌, true, List, ◌++◌, length, map, Result, Ok, Err}
use Rattle.std.specs.List.{list_all, flat_map, AllZip}
use Rattle.std.specs.List.Sorted.{IsPermutation, IsStrictlySortedBy}
use Rattle.std.specs.Ordering.{nat_cmp}
use Rattle.std.specs.Cmp.Lexicographic.{slice_cmp}
use Rattle.guest_input.specs.declared.image.Image.{Image}
use Rattle.guest_input.specs.declared.image.Start.{Start}
use Rattle.guest_input.specs.Starts.{start_cmp}
use Rattle.view_file.specs.declared.views.TheConstants.{APPS_MOST}
use Rattle.view_file.specs.declared.views.App.{App}
use Rattle.view_file.specs.declared.views.Views.{Views}
use Rattle.view_file.specs.declared.fault.ViewFault.{ViewFault}
use Rattle.view_file.specs.declared.fault.ViewFault.TheVariants.{OtherText, UnknownFunction}
use Rattle.view_file.specs.declared.written.Written.{Written}
use Rattle.view_file.specs.declared.written.WrittenApp.{WrittenApp}
use Rattle.function_table.specs.Groups.{groups_of, is_function}
use Rattle.view_file.specs.Base.{all_listed}
use Rattle.view_file.specs.Least.{contains, IsLeastUnknown}
use Rattle.view_file.specs.Written.{writing_of, Fails}

-- the starts of a list, each once, in order
pub record IsInOrder (given ordered : List Start) : Type 0 where
  pub ascending : IsStrictlySortedBy start_cmp ordered
  pub same : (at : Start) → contains ordered at ≡ contains given at

-- the app as it is written, its functions in order
pub record IsAppOf (written : WrittenApp) (app : App) : Type 0 where
  pub name : app.name ≡ written.name
  pub functions : IsInOrder written.functions app.functions

-- each name is above the one before
abbrev pub AreOrdered : List App → Type 0
AreOrdered apps = IsStrictlySortedBy (slice_cmp nat_cmp) (map (λ app. app.name) apps)

-- the apps that are written, in order of their names
pub record AreAppsOf (written : List WrittenApp) (apps : List App) : Type 0 where
  pub found : List App
  pub each : AllZip IsAppOf written found
  pub order : IsPermutation found apps
  pub ascending : AreOrdered apps

-- the views that a file writes
pub record IsViewsOf (w : Written) (v : Views) : Type 0 where
  pub text : v.text ≡ w.text
  pub shared : IsInOrder w.shared v.shared
  pub apps : AreAppsOf w.apps v.apps
  pub few : length v.apps ≤ APPS_MOST

-- what holds of views that were accepted for an image
pub record IsViewsFor (v : Views) (i : Image) : Type 0 where
  pub text : v.text ≡ i.digest
  pub few : length v.apps ≤ APPS_MOST
  pub ascending : AreOrdered v.apps
  pub listed : list_all (is_function (groups_of i)) (all_listed v) ≡ true

-- every function that a file lists
abbrev pub all_written : Written → List Start
all_written w = w.shared ++ flat_map (λ app. app.functions) w.apps

-- what parsing gives: the views that the bytes write, or the first fault
abbrev pub Parses : List ℕ → Result Views ViewFault → Type 0
Parses bytes (Ok v) = (w : Written) × (writing_of bytes ≡ Ok w) × IsViewsOf w v
Parses bytes (Err fault) = Fails fault (writing_of bytes)

-- what reading for an image gives: the same, then the fault of another text, then that of an unknown function
abbrev pub Reads : List ℕ → Image → Result Views ViewFault → Type 0
Reads bytes i (Ok v) = (w : Written) × (writing_of bytes ≡ Ok w) × IsViewsOf w v × IsViewsFor v i
Reads bytes i (Err OtherText) = (w : Written) × (writing_of bytes ≡ Ok w) × (w.text ≡ i.digest → ⊥)
Reads bytes i (Err (UnknownFunction at)) = (w : Written) × (writing_of bytes ≡ Ok w) × (w.text ≡ i.digest) × IsLeastUnknown (is_function (groups_of i)) (all_written w) at
Reads bytes i (Err fault) = Fails fault (writing_of bytes)
