-- What a run is made of, and the full run of a schedule.
-- The full kernel reads the original text; no view, window or recovery occurs in it.
use Rattle.std.specs.Prelude.{◌≡◌, ℕ, ◌<◌, Bool, true, false, Option, List, [], length, take, slice_index, slice_index_or}
use Rattle.guest_input.specs.declared.image.Image.{Image}
use Rattle.guest_input.specs.declared.setup.Setup.{Setup}
use Rattle.guest_input.specs.Accepted.{IsImage, IsSetupFor}
use Rattle.function_table.specs.Groups.{Groups, groups_of}
use Rattle.view_file.specs.declared.views.Views.{Views}
use Rattle.view_file.specs.Named.{view_named}
use Rattle.view_file.specs.Base.{base_of}
use Rattle.view_file.specs.Fits.{IsViewsFor}
use Rattle.guest_board.specs.declared.rules.Rules.{Rules}
use Rattle.guest_board.specs.Board.{State, may, name_of, next_of, run_from}
use Rattle.guest_board.specs.First.{first_state, rules_of}

-- an accepted image, with a setup and views that were accepted for it
pub record Config : Type 0 where
  pub image : Image
  pub setup : Setup
  pub views : Views

pub record IsConfig (c : Config) : Type 0 where
  pub image : IsImage c.image
  pub setup : IsSetupFor c.image c.setup
  pub views : IsViewsFor c.views c.image

-- views with no app, which list nothing
abbrev pub no_views : Views
no_views = record { text = []; shared = []; apps = [] }

abbrev pub image_groups : Config → Groups
image_groups c = groups_of c.image

-- whether the group is in the base of view v: it holds a function listed for the app, or a shared one
abbrev pub is_base : Config → ℕ → ℕ → Bool
is_base c v g = slice_index_or (base_of c.views (image_groups c) v) g false

abbrev pub rules_in : Config → Rules
rules_in c = rules_of c.image c.setup

-- the state of the full kernel after a schedule
abbrev pub full : Config → List ℕ → State
full c schedule = run_from (rules_in c) (first_state c.image c.setup) schedule

-- the state after the first t steps of a schedule
abbrev pub full_at : Config → List ℕ → ℕ → State
full_at c schedule t = full c (take t schedule)

-- each step of the schedule exists
abbrev pub IsLawfulSchedule : Config → List ℕ → Type 0
IsLawfulSchedule c schedule = (t : ℕ) → t < length schedule → may (rules_in c) (full_at c schedule t) (slice_index schedule t) ≡ true

-- the view of a vCPU: that of its app name, or the full view
abbrev pub view_in : Config → State → ℕ → ℕ
view_in c s i = view_named c.views (name_of s i)

-- the place in text that step t fetches, and the view under which it does
abbrev pub fetched_at : Config → List ℕ → ℕ → Option ℕ
fetched_at c schedule t = next_of (full_at c schedule t) (slice_index schedule t)

abbrev pub view_at : Config → List ℕ → ℕ → ℕ
view_at c schedule t = view_in c (full_at c schedule t) (slice_index schedule t)
