-- The number of steps of a schedule that exist.
use Rattle.std.proofs.Common.{◌≡◌, ℕ, zero, suc, ◌+◌, ◌<◌, ◌≤◌, Bool, true, false, List, [], ◌∷◌, length, take, refl, sym, ap, subst, ◌∙◌, arith, rules}
use Rattle.std.specs.Prelude.{slice_index}
use Rattle.std.proofs.lemmas.List.{take-take, get_or-take}
use Rattle.std.proofs.lemmas.Grind.{common_steps}
use mathlib.Core.Logic.{dite}
use native.Mathlib.Decide.{dec_lt}
use Rattle.guest_board.specs.Board.{State, may, run_from, step_of}
use Rattle.guest_board.specs.declared.rules.Rules.{Rules}
use Rattle.guest_board.specs.First.{first_state, first_slots}
use Rattle.guest_board.specs.Laws.{NumberOfVcpusStays}
use Rattle.run_evidence.specs.Config.{Config, rules_in, full, full_at, IsLawfulSchedule}
use Rattle.run_evidence.specs.Growing.{LawfulGrows}
use Rattle.std.proofs.lemmas.List.FromFn.{length-map-range_with_len}
use Rattle.full_run.proofs.Steps.{more}
use Rattle.full_run.specs.Replay.{IsLongest}
use Rattle.full_run.specs.Laws.{EachHasLongest, LongestIsOne, LawfulIsWhole, RunsKeepVcpus}

-- none ends before another
not-before : (c : Config) (schedule : List ℕ) (m n : ℕ) → IsLongest c schedule m → IsLongest c schedule n → m < n → ⊥
not-before c schedule m n one other less =
    let short : m < length schedule = let within = other.within in omega (arith, less, within) in
    let here : m < length (take n schedule) = let within = other.within in grind (arith, common_steps, less, within) in
    let front : take m (take n schedule) ≡ take m schedule = take-take m n schedule (omega (arith, less)) in
    let same : slice_index (take n schedule) m ≡ slice_index schedule m = get_or-take n schedule m 0 less in
    let goes : may (rules_in c) (full c (take m schedule)) (slice_index schedule m) ≡ true
    = subst (λ x. may (rules_in c) (full c (take m schedule)) x ≡ true) same (subst (λ xs. may (rules_in c) (full c xs) (slice_index (take n schedule) m) ≡ true) front (other.lawful m here)) in
    let ends : may (rules_in c) (full c (take m schedule)) (slice_index schedule m) ≡ false = one.ends short in
    absurd (cc)

pub longest_is_one : LongestIsOne
longest_is_one c schedule m n one other =
    dite (dec_lt m n) (λ less. absurd (not-before c schedule m n one other less)) (λ up.
    dite (dec_lt n m) (λ less. absurd (not-before c schedule n m other one less)) (λ down. omega (arith, up, down)))

take-whole : (schedule : List ℕ) → take (length schedule) schedule ≡ schedule
take-whole schedule = grind (arith, common_steps)

pub lawful_is_whole : LawfulIsWhole
lawful_is_whole c schedule = (
  (λ lawful. record { within = omega arith; lawful = subst (IsLawfulSchedule c) (sym (take-whole schedule)) lawful; ends = λ within. absurd (omega (arith, within)) }),
  (λ all. subst (IsLawfulSchedule c) (take-whole schedule) all.lawful),
)

-- from a front part on that is lawful, with so many members left
longest-from : LawfulGrows → (c : Config) (schedule : List ℕ) (left made : ℕ) → made + left ≡ length schedule → IsLawfulSchedule c (take made schedule) → (n : ℕ) × IsLongest c schedule n
longest-from grows c schedule zero made all lawful = (made, record { within = omega (arith, all); lawful = lawful; ends = λ within. absurd (omega (arith, all, within)) })
longest-from grows c schedule (suc left) made all lawful =
    step (may (rules_in c) (full_at c schedule made) (slice_index schedule made)) refl (longest-from grows c schedule left (made + 1) (omega (arith, all)))
  where
    step : (b : Bool) → may (rules_in c) (full_at c schedule made) (slice_index schedule made) ≡ b
        → (IsLawfulSchedule c (take (made + 1) schedule) → (n : ℕ) × IsLongest c schedule n) → (n : ℕ) × IsLongest c schedule n
    step true goes later = later (subst (IsLawfulSchedule c) (sym (more schedule made (omega (arith, all)))) (grows c (take made schedule) (slice_index schedule made) lawful goes))
    step false stops later = (made, record { within = omega (arith, all); lawful = lawful; ends = λ _. stops })

pub each_has_longest : LawfulGrows → EachHasLongest
each_has_longest grows c schedule = longest-from grows c schedule (length schedule) 0 (omega arith) (λ t within. absurd (omega (arith, within)))

run-keeps : NumberOfVcpusStays → (rules : Rules) (s : State) (schedule : List ℕ) → length (run_from rules s schedule).slots ≡ length s.slots
unfolding step_of
run-keeps stays rules s [] = refl
run-keeps stays rules s (i ∷ is) = run-keeps stays rules (step_of rules s i) is ∙ stays rules s i _

pub runs_keep_vcpus : NumberOfVcpusStays → RunsKeepVcpus
unfolding first_state first_slots
runs_keep_vcpus stays c schedule = run-keeps stays (rules_in c) (first_state c.image c.setup) schedule ∙ length-map-range_with_len _ 0 c.setup.vcpus
