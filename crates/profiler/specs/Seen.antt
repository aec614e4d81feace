-- The views of a tally.
use Rattle.std.specs.Prelude.{◌≡◌, ℕ, ◌<◌, List, [], length, slice_index_or}
use Rattle.std.specs.BTreeSet.{BTreeSet}
use Rattle.std.specs.List.Sorted.{IsPermutation, IsStrictlySortedBy}
use Rattle.guest_input.specs.declared.image.Image.{Image}
use Rattle.guest_input.specs.declared.image.Start.{Start}
use Rattle.guest_input.specs.Starts.{start_cmp}
use Rattle.view_file.specs.declared.views.App.{App}
use Rattle.view_file.specs.declared.views.Views.{Views}
use Rattle.view_file.specs.Fits.{AreOrdered}
use Rattle.profiler.specs.Tally.{set_of}
use Rattle.profiler.specs.declared.tally.Tally.{Tally}

-- the list has the members of the set, in order
pub record IsListOf (set : BTreeSet Start) (starts : List Start) : Type 0 where
  pub keys : starts ≡ set.keys
  pub ascending : IsStrictlySortedBy start_cmp set.keys

-- an app of this name, with the functions of this set
pub record IsAppFrom (name : List ℕ) (set : BTreeSet Start) (app : App) : Type 0 where
  pub named : app.name ≡ name
  pub functions : IsListOf set app.functions

-- an app for each name, with the functions of its set
pub record AreAppsOfSets (names : List (List ℕ)) (used : List (BTreeSet Start)) (apps : List App) : Type 0 where
  pub long : length apps ≡ length names
  pub each : (k : ℕ) (d : App) → k < length names → IsAppFrom (slice_index_or names k []) (set_of used k) (slice_index_or apps k d)

-- the digest of the image, and what the tally has, in order
pub record IsViewsFrom (image : Image) (t : Tally) (v : Views) : Type 0 where
  pub text : v.text ≡ image.digest
  pub shared : IsListOf t.shared v.shared
  pub found : List App
  pub apps : AreAppsOfSets t.names.items t.used.items found
  pub order : IsPermutation found v.apps
  pub ascending : AreOrdered v.apps
