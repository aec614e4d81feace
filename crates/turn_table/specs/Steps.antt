-- What each step of a thread tells of its pass: of the step, the seat before, the number found and the seat after.
use Rattle.std.specs.Prelude.{◌≡◌, ◌≢◌, ℕ, zero, suc, ◌-◌, ◌<◌, ◌==◌, ◌&&◌, Bool, true, false, if◌then◌else◌, nat_le, Option, Some, None, List, [], ◌∷◌, length, slice_set}
use Rattle.atomic_table.specs.Table.{Me, Step, rest}
use Rattle.run_evidence.specs.Config.{Config, IsLawfulSchedule}
use Rattle.run_evidence.specs.Evidence.{log_in}
use Rattle.run_evidence.specs.Growing.{Begins, board_of, paged_at, views_count, logs_of}
use Rattle.turn_table.specs.declared.known.Known.{Known}
use Rattle.turn_table.specs.declared.known.Key.{Key}
use Rattle.turn_table.specs.declared.known.Guarded.{Guarded}
use Rattle.turn_table.specs.declared.known.Guarded.TheVariants.{Board, View}
use Rattle.turn_table.specs.Numbers.{Counts, counts_from, at, least, greatest, grown, alone, counts_without, times, together}
use Rattle.turn_table.specs.Sound.{Log, IsEvidence}
use Rattle.turn_table.specs.Rule.{config_of}

-- what a pass knows, and the slots that it has out
abbrev pub Seated : Type 0
Seated = Me (Option Guarded) Known

-- the pass with another value held, another schedule and other logs seen, and other numbers
abbrev pub known_with : Known → Option ℕ → List ℕ → List Log → Counts → Known
known_with v holds seen logs counts = record { live = true; image = v.image; setup = v.setup; views = v.views; holds = holds; seen = seen; logs = logs; counts = counts }

-- a pass that owns every number and has seen this schedule and these logs
abbrev pub first_known : Config → List ℕ → List Log → Known
first_known c schedule logs = record {
  live = true;
  image = c.image;
  setup = c.setup;
  views = c.views;
  holds = None;
  seen = schedule;
  logs = logs;
  counts = counts_from 0 c.setup.vcpus schedule;
}

-- what a table was opened for, and its first pass
abbrev pub opened_for : Key → Config
opened_for key = record { image = key.image.value; setup = key.setup.value; views = key.profile.value }

abbrev pub first_known_by : Key → Known
first_known_by key = first_known (opened_for key) key.board.value.schedule (logs_of key.views.value.items)

-- the pass's own vCPU: the least that it owns
abbrev pub own : Known → ℕ
own v = least v.counts

-- it took the board, of this schedule
abbrev pub with_board : Known → List ℕ → Known
with_board v schedule = known_with v (Some 0) schedule v.logs v.counts

-- The board that is taken is that of a lawful schedule, which begins with the schedule seen, justifies the logs seen, and
-- has as many steps of each vCPU that the pass owns as the pass counts.
abbrev pub TookBoard : Seated → Seated → Type 0
TookBoard m n = (schedule : List ℕ) × Begins m.0.seen schedule × IsLawfulSchedule (config_of m.0) schedule × ((v : ℕ) → IsEvidence (config_of m.0) schedule v (log_in m.0.logs v))
    × ((i steps : ℕ) → at m.0.counts i ≡ Some steps → steps ≡ times i schedule)
    × (n ≡ (with_board m.0 schedule, (0, Some (Board (board_of (config_of m.0) schedule))) ∷ m.1))

abbrev pub tried_board : Step (Option Guarded) → Seated → ℕ → Seated → Type 0
tried_board st m r n = (r ≡ 0 → TookBoard m n) × (r ≢ 0 → n ≡ m)

-- it took view k, of this log; w is the view's word
abbrev pub with_view : Known → ℕ → ℕ → Log → Known
with_view v w k log = known_with v (Some w) v.seen (slice_set v.logs k log) v.counts

-- The view that is taken has a log that begins with the log seen.
abbrev pub TookView : ℕ → ℕ → Seated → Seated → Type 0
TookView w k m n = (log : Log) × Begins (log_in m.0.logs k) log × (k < length m.0.logs)
    × (n ≡ (with_view m.0 w k log, (w, Some (View (paged_at (config_of m.0) k log))) ∷ m.1))

abbrev pub tried_view : Step (Option Guarded) → Seated → ℕ → Seated → Type 0
tried_view st m r n = (k : ℕ) → st.word ≡ suc k → (r ≡ 0 → TookView st.word k m n) × (r ≢ 0 → n ≡ m)

-- it gave the board back, of this schedule
abbrev pub after_board : Known → List ℕ → Known
after_board v schedule = known_with v None schedule v.logs (slice_set v.counts (own v) (grown (at v.counts (own v)) (length schedule - length v.seen)))

-- it gave view k back, of this log
abbrev pub after_view : Known → ℕ → Log → Known
after_view v k log = known_with v None v.seen (slice_set v.logs k log) v.counts

abbrev pub view_of_word : ℕ → ℕ
view_of_word zero = 0
view_of_word (suc k) = k

abbrev pub after_value : Known → ℕ → Option Guarded → Known
after_value v w None = v
after_value v w (Some (Board b)) = after_board v b.schedule
after_value v w (Some (View p)) = after_view v (view_of_word w) p.log

abbrev pub after_give : Known → List (ℕ × Option Guarded) → Known
after_give v [] = v
after_give v (x ∷ xs) = after_value v x.0 x.1

abbrev pub gave : Step (Option Guarded) → Seated → ℕ → Seated → Type 0
gave st m r n = n ≡ (after_give m.0 m.1, rest m.1)

-- the slots that a pass has out between two calls: that of the value which it holds, empty
abbrev pub carried : Option ℕ → List (ℕ × Option Guarded)
carried None = []
carried (Some w) = (w, None) ∷ []

-- a pass is split: it keeps all its numbers but the greatest, and the new pass has that one
abbrev pub without_greatest : Known → Known
without_greatest v = known_with v None v.seen v.logs (counts_without v.counts (greatest v.counts))

abbrev pub greatest_alone : Known → Known
greatest_alone v = known_with v None v.seen v.logs (alone v.counts (greatest v.counts))

abbrev pub is_beginning : List ℕ → List ℕ → Bool
is_beginning [] ys = true
is_beginning (x ∷ xs) [] = false
is_beginning (x ∷ xs) (y ∷ ys) = (x == y) && is_beginning xs ys

abbrev pub longer : {X : Type 0} → List X → List X → List X
longer {X} xs ys = if nat_le (length xs) (length ys) then ys else xs

-- view by view the longer of two logs
abbrev pub longer_logs : List Log → List Log → List Log
longer_logs [] ys = ys
longer_logs (x ∷ xs) [] = x ∷ xs
longer_logs (x ∷ xs) (y ∷ ys) = longer x y ∷ longer_logs xs ys

-- it owns nothing, which the rule shuts out
abbrev pub shut_out : Known → Known
shut_out v = known_with v None [] [] []

abbrev pub with_both : Known → Known → List ℕ → Known
with_both v w seen = known_with v None seen (longer_logs v.logs w.logs) (together v.counts w.counts)

-- Two passes are joined: of the two schedules seen the one begins with the other, and the longer is kept. For two that
-- do not fit, which no table has, the pass is one that the rule shuts out.
abbrev pub joined_known : Known → Known → Known
joined_known v w =
    if is_beginning v.seen w.seen then with_both v w w.seen
    else if is_beginning w.seen v.seen then with_both v w v.seen
    else shut_out v

-- what the rule says of a pass, whatever the table is
pub record IsConsistent (v : Known) : Type 0 where
  pub some_number : (i : ℕ) × (n : ℕ) × (at v.counts i ≡ Some n)
  pub lawful : IsLawfulSchedule (config_of v) v.seen
  pub long : length v.counts ≡ v.setup.vcpus
  pub deep : length v.logs ≡ views_count (config_of v)

abbrev pub looked : Step (Option Guarded) → Seated → ℕ → Seated → Type 0
looked st m r n = (n ≡ m) × IsConsistent m.0
