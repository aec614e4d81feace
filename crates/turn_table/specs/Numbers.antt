-- The vCPU numbers that a pass owns: at each number none, or how many steps of that vCPU it knows of.
use Rattle.std.specs.Prelude.{ℕ, zero, suc, ◌+◌, ◌==◌, Bool, true, false, if◌then◌else◌, Option, Some, None, List, [], ◌∷◌, length, slice_index_or, slice_set, replicate}

abbrev pub Counts : Type 0
Counts = List (Option ℕ)

abbrev pub at : Counts → ℕ → Option ℕ
at counts i = slice_index_or counts i None

-- 1 for a number that is owned
abbrev pub weight : Option ℕ → ℕ
weight None = 0
weight (Some n) = 1

abbrev pub owns_some : Counts → Bool
owns_some [] = false
owns_some (None ∷ counts) = owns_some counts
owns_some (Some n ∷ counts) = true

-- the least number owned
abbrev pub least : Counts → ℕ
least [] = 0
least (None ∷ counts) = suc (least counts)
least (Some n ∷ counts) = 0

-- the greatest number owned
abbrev pub greatest : Counts → ℕ
greatest [] = 0
greatest (x ∷ counts) = if owns_some counts then suc (greatest counts) else 0

abbrev pub grown : Option ℕ → ℕ → Option ℕ
grown None n = None
grown (Some k) n = Some (k + n)

-- the number i alone
abbrev pub alone : Counts → ℕ → Counts
alone counts i = slice_set (replicate (length counts) None) i (at counts i)

-- all numbers but i
abbrev pub counts_without : Counts → ℕ → Counts
counts_without counts i = slice_set counts i None

abbrev pub either_count : Option ℕ → Option ℕ → Option ℕ
either_count None y = y
either_count (Some n) y = Some n

-- the numbers of both
abbrev pub together : Counts → Counts → Counts
together [] ys = []
together (x ∷ xs) [] = x ∷ xs
together (x ∷ xs) (y ∷ ys) = either_count x y ∷ together xs ys

-- how often i stands in the list
abbrev pub times : ℕ → List ℕ → ℕ
times i [] = 0
times i (j ∷ js) = (if i == j then 1 else 0) + times i js

-- every number from i on, n of them, with its steps in the schedule
abbrev pub counts_from : ℕ → ℕ → List ℕ → Counts
counts_from i zero schedule = []
counts_from i (suc n) schedule = Some (times i schedule) ∷ counts_from (suc i) n schedule
