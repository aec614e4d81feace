-- The profile of a run: which functions were fetched from under which app name, and which inside traps.
-- The rule is this project's own. An app stands for the setup's first name and for each name that the hook met. Places that
-- are fetched at depth 0 count for the name, places at a greater depth for all; places at depth 0 without a name count for
-- none. Name and depth are those before the step.
use Rattle.std.specs.Prelude.{◌≡◌, ◌≢◌, ◌↔◌, ◌⊎◌, ℕ, ◌<◌, ◌≤◌, All, true, if◌then◌else◌, Option, Some, None, List, [], length, slice_get, slice_index, Result, Ok, Err}
use Rattle.std.specs.List.{IsDistinct}
use Rattle.std.specs.List.Sorted.{IsStrictlySortedBy}
use Rattle.std.specs.Str.{bytes_eq}
use Rattle.guest_input.specs.declared.image.Image.{Image}
use Rattle.guest_input.specs.declared.image.Start.{Start}
use Rattle.guest_input.specs.declared.setup.Setup.{Setup}
use Rattle.guest_input.specs.Accepted.{starts_of}
use Rattle.guest_input.specs.Starts.{start_cmp}
use Rattle.function_table.specs.Groups.{function_at, groups_of, in_groups_text}
use Rattle.view_file.specs.declared.views.TheConstants.{APPS_MOST}
use Rattle.view_file.specs.declared.views.App.{App}
use Rattle.view_file.specs.declared.views.Views.{Views}
use Rattle.view_file.specs.Fits.{AreOrdered}
use Rattle.view_file.specs.Least.{contains}
use Rattle.view_file.specs.Union.{has_app}
use Rattle.guest_board.specs.Board.{State, depth_of, name_of, next_of, step_of}
use Rattle.run_evidence.specs.Config.{Config, full_at, rules_in}
use Rattle.profiler.specs.RoundRobin.{IsRoundRobin, TakesTurns}
use Rattle.profiler.specs.declared.profile.Profiled.{Profiled}
use Rattle.profiler.specs.declared.profile.ProfileFault.{ProfileFault}
use Rattle.profiler.specs.declared.profile.ProfileFault.TheVariants.{TooManyApps, NoMemory}

-- a step of the schedule, of whose state before it and whose vCPU this holds
pub record SomeStep (c : Config) (schedule : List ℕ) (Is : State → ℕ → Type 0) : Type 0 where
  pub step : ℕ
  pub within : step < length schedule
  pub is : Is (full_at c schedule step) (slice_index schedule step)

-- the start of the function that holds a place of text
abbrev pub start_of : Image → ℕ → Option Start
start_of image place = if in_groups_text (groups_of image) place then slice_get (starts_of image.functions) (function_at (groups_of image) place) else None

-- the next step of vCPU i fetches a place of the function that starts there
pub record FetchesFrom (image : Image) (at : Start) (s : State) (i : ℕ) : Type 0 where
  pub place : ℕ
  pub next : next_of s i ≡ Some place
  pub start : start_of image place ≡ Some at

-- it does so at depth 0, under this name
pub record FetchesUnder (image : Image) (name : List ℕ) (at : Start) (s : State) (i : ℕ) : Type 0 where
  pub fetches : FetchesFrom image at s i
  pub named : name_of s i ≡ Some name
  pub outside_traps : depth_of s i ≡ 0

-- it does so at a greater depth, under any name or none
pub record FetchesInTrap (image : Image) (at : Start) (s : State) (i : ℕ) : Type 0 where
  pub fetches : FetchesFrom image at s i
  pub inside_trap : 0 < depth_of s i

-- vCPU i has this name after its next step
abbrev pub IsNamedNext : Config → List ℕ → State → ℕ → Type 0
IsNamedNext c name s i = name_of (step_of (rules_in c) s i) i ≡ Some name

-- the setup's first name, or that of a vCPU after one of its steps, which is the one that it had before or one that the hook met
abbrev pub IsMet : Config → List ℕ → List ℕ → Type 0
IsMet c schedule name = (c.setup.start ≡ Some name) ⊎ SomeStep c schedule (IsNamedNext c name)

abbrev pub IsUsedUnder : Config → List ℕ → List ℕ → Start → Type 0
IsUsedUnder c schedule name at = SomeStep c schedule (FetchesUnder c.image name at)

abbrev pub IsUsedInTrap : Config → List ℕ → Start → Type 0
IsUsedInTrap c schedule at = SomeStep c schedule (FetchesInTrap c.image at)

-- exactly the starts of which this holds, each once, in order
pub record AreAll (Is : Start → Type 0) (starts : List Start) : Type 0 where
  pub ascending : IsStrictlySortedBy start_cmp starts
  pub members : (at : Start) → (contains starts at ≡ true) ↔ Is at

-- the app has the functions that were used under its name
abbrev pub IsAppOfSchedule : Config → List ℕ → App → Type 0
IsAppOfSchedule c schedule app = AreAll (IsUsedUnder c schedule app.name) app.functions

-- these views are the profile of the schedule
pub record IsProfile (c : Config) (schedule : List ℕ) (v : Views) : Type 0 where
  pub text : v.text ≡ c.image.digest
  pub shared : AreAll (IsUsedInTrap c schedule) v.shared
  pub apps : All (IsAppOfSchedule c schedule) v.apps
  pub names : (name : List ℕ) → (has_app v.apps name ≡ true) ↔ IsMet c schedule name
  pub ordered : AreOrdered v.apps

-- the schedule meets more names than views may have
pub record MeetsTooMany (c : Config) (schedule : List ℕ) : Type 0 where
  pub names : List (List ℕ)
  pub once : IsDistinct bytes_eq names
  pub met : All (IsMet c schedule) names
  pub many : APPS_MOST < length names

-- an image and a setup, before there are views
abbrev pub unviewed : Image → Setup → Config
unviewed image setup = record { image = image; setup = setup; views = record { text = []; shared = []; apps = [] } }

-- the profile of the round-robin schedule, and the end of its run
pub record IsProfiled (c : Config) (p : Profiled) : Type 0 where
  pub schedule : List ℕ
  pub robin : IsRoundRobin c schedule p.end
  pub profile : IsProfile c schedule p.views

-- turns that lead to too many names
pub record IsOverfull (c : Config) : Type 0 where
  pub schedule : List ℕ
  pub turns : TakesTurns c schedule
  pub many : MeetsTooMany c schedule

-- what profiling answers
abbrev pub Profiles : Image → Setup → Result Profiled ProfileFault → Type 0
Profiles image setup (Ok p) = IsProfiled (unviewed image setup) p
Profiles image setup (Err TooManyApps) = IsOverfull (unviewed image setup)
Profiles image setup (Err NoMemory) = Unit {0}
