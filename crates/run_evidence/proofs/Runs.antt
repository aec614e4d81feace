-- A run by one more step, and what came before it.
use Rattle.std.proofs.Common.{◌≡◌, ℕ, ◌+◌, ◌<◌, ◌≤◌, true, List, [], ◌∷◌, ◌++◌, length, take, arith, refl, ◌∙◌, sym, ap, subst, length-append}
use Rattle.std.specs.Prelude.{slice_index}
use Rattle.std.proofs.lemmas.List.{take-append-le, get_or_append_left}
use Rattle.std.proofs.Math.Seq.{get_or-append_seam}
use Rattle.std.proofs.lemmas.Grind.{common_steps}
use Rattle.guest_board.specs.declared.rules.Rules.{Rules}
use Rattle.guest_board.specs.Board.{State, may, step_of, run_from}
use Rattle.run_evidence.specs.Config.{Config, rules_in, full, full_at, IsLawfulSchedule}

pub run_from-append : (rules : Rules) (s : State) (schedule later : List ℕ) → run_from rules s (schedule ++ later) ≡ run_from rules (run_from rules s schedule) later
run_from-append rules s [] later = refl
run_from-append rules s (j ∷ js) later = run_from-append rules (step_of rules s j) js later

pub run_from-more : (rules : Rules) (s : State) (schedule : List ℕ) (i : ℕ) → run_from rules s (schedule ++ i ∷ []) ≡ step_of rules (run_from rules s schedule) i
run_from-more rules s schedule i = run_from-append rules s schedule (i ∷ [])

-- what came before does not depend on what comes
pub full_at-more : (c : Config) (schedule : List ℕ) (i t : ℕ) → t ≤ length schedule → full_at c (schedule ++ i ∷ []) t ≡ full_at c schedule t
full_at-more c schedule i t h = ap (λ x. full c x) (take-append-le t schedule (i ∷ []) h)

take-whole : (schedule : List ℕ) → take (length schedule) schedule ≡ schedule
take-whole schedule = grind (arith, common_steps)

pub full_at-now : (c : Config) (schedule : List ℕ) → full_at c schedule (length schedule) ≡ full c schedule
full_at-now c schedule = ap (λ x. full c x) (take-whole schedule)

-- the member of a schedule at a step, and the new one
pub member-more : (schedule : List ℕ) (i t : ℕ) → t < length schedule → slice_index (schedule ++ i ∷ []) t ≡ slice_index schedule t
member-more schedule i t h = get_or_append_left schedule (i ∷ []) 0 t h

pub member-now : (schedule : List ℕ) (i t : ℕ) → t ≡ length schedule → slice_index (schedule ++ i ∷ []) t ≡ i
member-now schedule i t h = ap (λ x. slice_index (schedule ++ i ∷ []) x) h ∙ get_or-append_seam schedule i [] 0

-- a lawful schedule with one more step that exists
pub lawful-more : (c : Config) (schedule : List ℕ) (i : ℕ) → IsLawfulSchedule c schedule → may (rules_in c) (full c schedule) i ≡ true → IsLawfulSchedule c (schedule ++ i ∷ [])
lawful-more c schedule i all new t within =
    let some : t < length schedule + 1 = simp length-append at within in
    let before : t < length schedule → may (rules_in c) (full_at c (schedule ++ i ∷ []) t) (slice_index (schedule ++ i ∷ []) t) ≡ true = λ h.
    rw (full_at-more c schedule i t (omega arith), member-more schedule i t h) (all t h) in
    let now : t ≡ length schedule → may (rules_in c) (full_at c (schedule ++ i ∷ []) t) (slice_index (schedule ++ i ∷ []) t) ≡ true = λ h.
    rw (full_at-more c schedule i t (omega arith), member-now schedule i t h) (subst (λ x. may (rules_in c) (full_at c schedule x) i ≡ true) (sym h) (rw (full_at-now c schedule) new)) in
    grind (arith, before, now, some)
