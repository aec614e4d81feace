-- The misses of a run: the steps that fetch a group which is not in the base of their view and was fetched under
-- that view at no earlier step.
use Rattle.std.specs.Prelude.{ℕ, ◌==◌, ◌&&◌, ◌||◌, Bool, false, not, if◌then◌else◌, Option, Some, None, List, [], ◌∷◌, ◌++◌, length, map}
use Rattle.std.specs.List.{filter}
use Rattle.std.proofs.Common.{zero, suc}
use Rattle.chain_log.specs.declared.entry.LogEntry.{LogEntry}
use Rattle.function_table.specs.Groups.{group_at}
use Rattle.run_evidence.specs.Config.{Config, image_groups, is_base, fetched_at, view_at}

-- whether the place, if there is one, is of group g
abbrev pub is_of_group : Config → Option ℕ → ℕ → Bool
is_of_group c None g = false
is_of_group c (Some p) g = group_at (image_groups c) p == g

-- whether step t fetches group g under view v
abbrev pub is_fetch : Config → List ℕ → ℕ → ℕ → ℕ → Bool
is_fetch c schedule v g t = (view_at c schedule t == v) && is_of_group c (fetched_at c schedule t) g

-- whether one of the first t steps does
unfoldable pub was_fetched : Config → List ℕ → ℕ → ℕ → ℕ → Bool
was_fetched c schedule v g zero = false
was_fetched c schedule v g (suc t) = is_fetch c schedule v g t || was_fetched c schedule v g t

abbrev pub is_new : Config → List ℕ → ℕ → ℕ → ℕ → Bool
is_new c schedule t v g = not (is_base c v g) && not (was_fetched c schedule v g t)

abbrev pub is_miss_at : Config → List ℕ → ℕ → Option ℕ → Bool
is_miss_at c schedule t None = false
is_miss_at c schedule t (Some p) = is_new c schedule t (view_at c schedule t) (group_at (image_groups c) p)

-- whether step t is a miss
abbrev pub is_miss : Config → List ℕ → ℕ → Bool
is_miss c schedule t = is_miss_at c schedule t (fetched_at c schedule t)

-- the misses among the first t steps, in order
unfoldable pub misses_to : Config → List ℕ → ℕ → List ℕ
misses_to c schedule zero = []
misses_to c schedule (suc t) = misses_to c schedule t ++ (if is_miss c schedule t then t ∷ [] else [])

abbrev pub misses : Config → List ℕ → List ℕ
misses c schedule = misses_to c schedule (length schedule)

-- the misses under view v, in order
abbrev pub misses_under : Config → List ℕ → ℕ → List ℕ
misses_under c schedule v = filter (λ t. view_at c schedule t == v) (misses c schedule)

-- the steps at which the entries of a log trapped, in the order of the log
abbrev pub steps_of : List LogEntry → List ℕ
steps_of log = map (λ e. e.at) log
