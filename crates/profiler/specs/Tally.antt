-- What is kept of a run while it is profiled, and what one step adds.
use Rattle.std.specs.Prelude.{option_and_then, ◌≡◌, ◌↔◌, ◌⊎◌, ℕ, ◌+◌, ◌<◌, ◌≤◌, ◌==◌, Bool, true, false, if◌then◌else◌, Option, Some, None, List, [], ◌∷◌, ◌++◌, length, slice_index_or, slice_set, Result, Ok, Err}
use Rattle.std.specs.BTreeSet.{BTreeSet}
use Rattle.std.specs.BTreeSet as sets
use Rattle.std.specs.List.{IsDistinct, list_any, position}
use Rattle.std.specs.Str.{bytes_eq}
use Rattle.fc_numbers.specs.declared.machine.End.{End}
use Rattle.guest_input.specs.declared.image.Image.{Image}
use Rattle.guest_input.specs.declared.image.Start.{Start}
use Rattle.guest_input.specs.Starts.{start_cmp}
use Rattle.view_file.specs.declared.views.TheConstants.{APPS_MOST}
use Rattle.guest_board.specs.Board.{State, depth_of, name_of, next_of}
use Rattle.run_evidence.specs.Config.{Config, full_at}
use Rattle.profiler.specs.Profile.{IsOverfull, IsMet, IsUsedInTrap, IsUsedUnder, start_of}
use Rattle.profiler.specs.RoundRobin.{IsRoundRobin}
use Rattle.profiler.specs.declared.profile.ProfileFault.{ProfileFault}
use Rattle.profiler.specs.declared.profile.ProfileFault.TheVariants.{TooManyApps, NoMemory}
use Rattle.profiler.specs.declared.tally.Listed.{Listed}
use Rattle.profiler.specs.declared.tally.Listed.TheVariants.{Shared, Under, Nowhere}
use Rattle.profiler.specs.declared.tally.Tally.{Tally}

abbrev pub has_name : List (List ℕ) → List ℕ → Bool
has_name names name = list_any (λ other. bytes_eq other name) names

abbrev pub position_of_name : List (List ℕ) → List ℕ → Option ℕ
position_of_name names name = position (λ other. bytes_eq other name) names

-- the set has exactly the starts of which this holds
abbrev pub HasAll : (Start → Type 0) → BTreeSet Start → Type 0
HasAll Is set = (at : Start) → (sets.contains start_cmp set at ≡ true) ↔ Is at

abbrev pub no_starts : BTreeSet Start
no_starts = record { keys = [] }

abbrev pub set_of : List (BTreeSet Start) → ℕ → BTreeSet Start
set_of used k = slice_index_or used k no_starts

-- the tally of a schedule
pub record IsTally (c : Config) (schedule : List ℕ) (t : Tally) : Type 0 where
  pub shared : HasAll (IsUsedInTrap c schedule) t.shared
  pub long : length t.used.items ≡ length t.names.items
  pub used : (k : ℕ) → k < length t.names.items → HasAll (IsUsedUnder c schedule (slice_index_or t.names.items k [])) (set_of t.used.items k)
  pub once : IsDistinct bytes_eq t.names.items
  pub met : (name : List ℕ) → (has_name t.names.items name ≡ true) ↔ IsMet c schedule name
  pub few : length t.names.items ≤ APPS_MOST
  pub known : (step k : ℕ) (name : List ℕ) → step ≤ length schedule → name_of (full_at c schedule step) k ≡ Some name → has_name t.names.items name ≡ true

abbrev pub under : Option ℕ → Listed
under None = Nowhere
under (Some n) = Under n

abbrev pub listed_by_name : List (List ℕ) → Option (List ℕ) → Listed
listed_by_name names None = Nowhere
listed_by_name names (Some name) = under (position_of_name names name)

-- where a function is listed that is fetched from under this name, or none, at this depth
abbrev pub listed_by : List (List ℕ) → Option (List ℕ) → ℕ → Listed
listed_by names name depth = if depth == 0 then listed_by_name names name else Shared

-- a name more, under which nothing was used yet
pub record IsLonger (t : Tally) (name : List ℕ) (u : Tally) : Type 0 where
  pub new : has_name t.names.items name ≡ false
  pub room : length t.names.items < APPS_MOST
  pub shared : u.shared ≡ t.shared
  pub names : u.names.items ≡ t.names.items ++ name ∷ []
  pub used : u.used.items ≡ t.used.items ++ no_starts ∷ []

-- the name is known, if there is one
abbrev pub AddsName : Tally → Option (List ℕ) → Tally → Type 0
AddsName t None u = u ≡ t
AddsName t (Some name) u = ((has_name t.names.items name ≡ true) × (u ≡ t)) ⊎ IsLonger t name u

-- a name that there is no room for
abbrev pub IsTooMuch : Tally → Option (List ℕ) → Type 0
IsTooMuch t None = ⊥
IsTooMuch t (Some name) = (has_name t.names.items name ≡ false) × (APPS_MOST ≤ length t.names.items)

-- the start is a member of the set, too
abbrev pub AddsStart : BTreeSet Start → Start → BTreeSet Start → Type 0
AddsStart set at more = sets.Updates start_cmp set more at true

-- the start is listed where it belongs, and all else stays
abbrev pub AddsListed : Tally → Listed → Start → Tally → Type 0
AddsListed t Nowhere at u = u ≡ t
AddsListed t Shared at u = AddsStart t.shared at u.shared × (u.names ≡ t.names) × (u.used ≡ t.used)
AddsListed t (Under n) at u = (more : BTreeSet Start) × AddsStart (set_of t.used.items n) at more × (u.used.items ≡ slice_set t.used.items n more)
    × (u.names ≡ t.names) × (u.shared ≡ t.shared)

abbrev pub IsWithin : Listed → ℕ → Type 0
IsWithin Nowhere n = Unit {0}
IsWithin Shared n = Unit {0}
IsWithin (Under k) n = k < n

-- what one place that is fetched adds
abbrev pub AddsPlace : Tally → Listed → Option Start → Tally → Type 0
AddsPlace t listed None u = u ≡ t
AddsPlace t listed (Some at) u = AddsListed t listed at u

-- the start of the function from which the next step of vCPU i fetches
abbrev pub start_next : Image → State → ℕ → Option Start
start_next image s i = option_and_then (start_of image) (next_of s i)

-- what the place adds that a step of vCPU i in this state fetches
abbrev pub AddsFetch : Image → State → ℕ → Tally → Tally → Type 0
AddsFetch image s i t u = AddsPlace t (listed_by t.names.items (name_of s i) (depth_of s i)) (start_next image s i) u

-- a step of vCPU i in this state, after which it has this name, or none
pub record AddsStep (image : Image) (s : State) (i : ℕ) (name : Option (List ℕ)) (t u : Tally) : Type 0 where
  pub between : Tally
  pub fetch : AddsFetch image s i t between
  pub meets : AddsName between name u

-- the same where there is no room for the name
pub record IsTooMuchAfter (image : Image) (s : State) (i : ℕ) (name : Option (List ℕ)) (t : Tally) : Type 0 where
  pub between : Tally
  pub fetch : AddsFetch image s i t between
  pub many : IsTooMuch between name

-- what a round-robin run comes to: its tally and its end, or too many names
abbrev pub Runs : Config → Result (Tally × End) ProfileFault → Type 0
Runs c (Ok ran) = (schedule : List ℕ) × IsRoundRobin c schedule ran.1 × IsTally c schedule ran.0
Runs c (Err TooManyApps) = IsOverfull c
Runs c (Err NoMemory) = Unit {0}
