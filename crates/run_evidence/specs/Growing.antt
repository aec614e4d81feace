-- Boards and views of a run, and what stays true of schedules and logs when they grow at their ends.
use Rattle.std.specs.Prelude.{◌≡◌, ℕ, ◌+◌, ◌<◌, ◌≤◌, true, false, Some, List, [], ◌∷◌, ◌++◌, length, map}
use Rattle.chain_log.specs.declared.entry.LogEntry.{LogEntry}
use Rattle.guest_input.specs.Text.{bytes_of}
use Rattle.function_table.specs.Groups.{group_at}
use Rattle.view_file.specs.Base.{base_of}
use Rattle.view_store.specs.Paged.{PagedView}
use Rattle.guest_board.specs.Board.{Seat, may, moved, next_of, run_from, step_of}
use Rattle.run_evidence.specs.Config.{Config, image_groups, rules_in, full, IsLawfulSchedule, view_in, fetched_at, view_at}
use Rattle.run_evidence.specs.Evidence.{IsAllowed, is_group_open, log_in}

-- the second list begins with the first
abbrev pub Begins : {X : Type 0} → List X → List X → Type 0
Begins {X} xs ys = (rest : List X) × (ys ≡ xs ++ rest)

-- the board after a schedule
abbrev pub board_of : Config → List ℕ → Seat
board_of c schedule = record { rules = rules_in c; state = full c schedule; schedule = schedule }

-- the full view, and one for each app
abbrev pub views_count : Config → ℕ
views_count c = length c.views.apps + 1

-- view v with this log
abbrev pub paged_at : Config → ℕ → List LogEntry → PagedView
paged_at c v log = record { number = v; text = bytes_of c.image.ranges; groups = image_groups c; base = base_of c.views (image_groups c) v; log = log }

-- the logs of views
abbrev pub logs_of : List PagedView → List (List LogEntry)
logs_of paged_views = map (λ (p : PagedView). p.log) paged_views

-- each fetch of text from step `from` on is of a group in the base of its view, or logged for it at or before that step
abbrev pub IsAllowedFrom : Config → List (List LogEntry) → List ℕ → ℕ → Type 0
IsAllowedFrom c logs schedule from = (t p : ℕ) → from ≤ t → t < length schedule → fetched_at c schedule t ≡ Some p
    → is_group_open c logs (view_at c schedule t) t (group_at (image_groups c) p) ≡ true

-- the run of a schedule and what comes after it
abbrev pub RunsAppend : Type 0
RunsAppend = (c : Config) (schedule later : List ℕ) → full c (schedule ++ later) ≡ run_from (rules_in c) (full c schedule) later

-- one more step moves the board
abbrev pub BoardsMove : Type 0
BoardsMove = (c : Config) (schedule : List ℕ) (i : ℕ) → board_of c (schedule ++ i ∷ []) ≡ moved (board_of c schedule) i (step_of (rules_in c) (full c schedule) i)

-- a lawful schedule with one more step that exists is lawful
abbrev pub LawfulGrows : Type 0
LawfulGrows = (c : Config) (schedule : List ℕ) (i : ℕ) → IsLawfulSchedule c schedule → may (rules_in c) (full c schedule) i ≡ true → IsLawfulSchedule c (schedule ++ i ∷ [])

-- a front part of a lawful schedule is lawful
abbrev pub FrontsAreLawful : Type 0
FrontsAreLawful = (c : Config) (schedule later : List ℕ) → IsLawfulSchedule c (schedule ++ later) → IsLawfulSchedule c schedule

-- a vCPU that may not step may not after further steps
abbrev pub StoppedStays : Type 0
StoppedStays = (c : Config) (schedule later : List ℕ) (i : ℕ) → may (rules_in c) (full c schedule) i ≡ false → IsLawfulSchedule c (schedule ++ later)
    → may (rules_in c) (full c (schedule ++ later)) i ≡ false

-- all fetches are allowed where those from step 0 on are
abbrev pub AllowedIsFromStart : Type 0
AllowedIsFromStart = (c : Config) (logs : List (List LogEntry)) (schedule : List ℕ)
    → (IsAllowed c logs schedule → IsAllowedFrom c logs schedule 0) × (IsAllowedFrom c logs schedule 0 → IsAllowed c logs schedule)

-- fetches that are allowed from a step on stay so when the logs grow
abbrev pub AllowedFromStays : Type 0
AllowedFromStays = (c : Config) (schedule : List ℕ) (from : ℕ) (logs more : List (List LogEntry))
    → ((v : ℕ) → Begins (log_in logs v) (log_in more v)) → IsAllowedFrom c logs schedule from → IsAllowedFrom c more schedule from

-- one more step, whose fetch is allowed
abbrev pub AllowedFromGrows : Type 0
AllowedFromGrows = (c : Config) (schedule : List ℕ) (i from : ℕ) (logs : List (List LogEntry)) → IsAllowedFrom c logs schedule from
    → ((p : ℕ) → next_of (full c schedule) i ≡ Some p → is_group_open c logs (view_in c (full c schedule) i) (length schedule) (group_at (image_groups c) p) ≡ true)
    → IsAllowedFrom c logs (schedule ++ i ∷ []) from

-- all fetches are allowed where those of a front part are, and those after it
abbrev pub AllowedJoins : Type 0
AllowedJoins = (c : Config) (schedule later : List ℕ) (logs : List (List LogEntry)) → IsAllowed c logs schedule
    → IsAllowedFrom c logs (schedule ++ later) (length schedule) → IsAllowed c logs (schedule ++ later)
