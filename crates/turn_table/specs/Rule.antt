-- The rule that holds between any two steps of threads.
-- Word 0 and slot 0 are the board's, word k + 1 and slot k + 1 those of view k. A word is 0 while its value is at home
-- in the slot, and 1 while one pass holds it.
use Rattle.std.specs.Prelude.{◌≡◌, ℕ, zero, suc, ◌<◌, ◌≤◌, ◌==◌, Bool, true, false, if◌then◌else◌, Option, Some, None, List, [], ◌∷◌, length, map, slice_index, slice_index_or}
use Rattle.fc_numbers.specs.declared.machine.GKind.TheVariants.{Sv39x4}
use Rattle.guest_input.specs.declared.image.Image.{Image}
use Rattle.guest_input.specs.declared.setup.Setup.{Setup}
use mathlib.Core.Option.{some}
use lib.ListN.{get_elem?}
use Rattle.atomic_table.specs.Table.{State}
use Rattle.guest_board.specs.Board.{Seat}
use Rattle.view_store.specs.Paged.{PagedView}
use Rattle.run_evidence.specs.Config.{Config, no_views}
use Rattle.run_evidence.specs.Evidence.{log_in}
use Rattle.run_evidence.specs.Growing.{Begins, board_of, paged_at, views_count}
use Rattle.turn_table.specs.declared.known.Known.{Known}
use Rattle.turn_table.specs.declared.known.Guarded.{Guarded}
use Rattle.turn_table.specs.declared.known.Guarded.TheVariants.{Board, View}
use Rattle.turn_table.specs.Total.{total}
use Rattle.turn_table.specs.Numbers.{at, weight, times}
use Rattle.turn_table.specs.Sound.{Log, AreSoundLogs}

-- what the pass's table was opened for
abbrev pub config_of : Known → Config
config_of v = record { image = v.image; setup = v.setup; views = v.views }

-- 1 where the pass owns vCPU i
abbrev pub owns : ℕ → Known → ℕ
owns i v = weight (at v.counts i)

abbrev pub is_word : ℕ → Option ℕ → ℕ
is_word w None = 0
is_word w (Some x) = if w == x then 1 else 0

-- 1 where the pass holds the value of word w
abbrev pub holds_word : ℕ → Known → ℕ
holds_word w v = is_word w v.holds

-- the value of word w after this schedule and with these logs
abbrev pub value_of : Config → List ℕ → List Log → ℕ → Guarded
value_of c schedule logs zero = Board (board_of c schedule)
value_of c schedule logs (suc k) = View (paged_at c k (log_in logs k))

-- What a pass knows is true, where the board's schedule and the views' logs are these: it has seen beginnings of them,
-- and the whole of what it holds; each number that it owns has its steps; it owns some number.
pub record IsTruthfulPass (c : Config) (schedule : List ℕ) (logs : List Log) (v : Known) : Type 0 where
  pub config : config_of v ≡ c
  pub seen : Begins v.seen schedule
  pub deep : length v.logs ≡ views_count c
  pub logs_seen : (k : ℕ) → Begins (log_in v.logs k) (log_in logs k)
  pub long : length v.counts ≡ c.setup.vcpus
  pub counts : (i n : ℕ) → at v.counts i ≡ Some n → n ≡ times i schedule
  pub some_number : (i : ℕ) × (n : ℕ) × (at v.counts i ≡ Some n)
  pub has_board : v.holds ≡ Some 0 → v.seen ≡ schedule
  pub has_view : (k : ℕ) → v.holds ≡ Some (suc k) → log_in v.logs k ≡ log_in logs k

abbrev pub no_image : Image
no_image = record { entry = 0; ranges = []; parts = []; functions = []; digest = [] }

abbrev pub no_setup : Setup
no_setup = record { vcpus = 0; ram = 0; steps = 0; hook = None; name_at = 0; start = None; events = []; gstage = Sv39x4 }

-- what is left of a pass that was joined to another
abbrev pub spent : Known
spent = record { live = false; image = no_image; setup = no_setup; views = no_views; holds = None; seen = []; logs = []; counts = [] }

abbrev pub IsTruthfulOrSpent : Config → List ℕ → List Log → Known → Bool → Type 0
IsTruthfulOrSpent c schedule logs v true = IsTruthfulPass c schedule logs v
IsTruthfulOrSpent c schedule logs v false = v ≡ spent

-- The rule: there is one schedule and a log for each view, which are sound; a word is 1 exactly where one pass holds its
-- value; each value at home is that of the schedule and the logs; what each pass knows is true; each vCPU is owned once.
pub record IsShared (c : Config) (s : State (Option Guarded) Known) : Type 0 where
  pub schedule : List ℕ
  pub logs : List Log
  pub sound : AreSoundLogs c schedule logs
  pub wide : length s.words ≡ suc (views_count c)
  pub slots : length s.homes ≡ suc (views_count c)
  pub deep : length logs ≡ views_count c
  pub bit : (w : ℕ) → slice_index s.words w ≤ 1
  pub out : (w : ℕ) → total (holds_word w) s.views ≡ slice_index s.words w
  pub home : (w : ℕ) → w < suc (views_count c) → slice_index s.words w ≡ 0 → get_elem? s.homes w ≡ some (some (Some (value_of c schedule logs w)))
  pub each : (j : ℕ) (v : Known) → get_elem? s.views j ≡ some v → IsTruthfulOrSpent c schedule logs v v.live
  pub once : (i : ℕ) → i < c.setup.vcpus → total (owns i) s.views ≡ 1

-- the views of a configuration, in order, with these logs
abbrev pub AreViews : Config → List Log → List PagedView → Type 0
AreViews c logs ps = (k : ℕ) (p : PagedView) → k < length ps → slice_index_or ps k p ≡ paged_at c k (log_in logs k)

abbrev pub view_slot : PagedView → Option Guarded
view_slot p = Some (View p)

-- the slots while the board and each view are at home
abbrev pub slots_of : Seat → List PagedView → List (Option Guarded)
slots_of b ps = Some (Board b) ∷ map view_slot ps

-- the slots are those of a board and of at most n views
abbrev pub AreSlots : List (Option Guarded) → ℕ → Type 0
AreSlots xs n = (b : Seat) × (ps : List PagedView) × (xs ≡ slots_of b ps) × (length ps ≤ n)
