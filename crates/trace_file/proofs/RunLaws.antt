-- The runs of a schedule and the schedule of runs.
use Rattle.std.proofs.Common.{◌≡◌, ℕ, zero, suc, ◌+◌, ◌-◌, ◌^◌, ◌<◌, ◌≤◌, eqb, leb, ltb, ◌||◌, false, cond, List, [], ◌∷◌, ◌++◌, length, replicate, get_or, take, drop, Some, None, refl, sym, ap, subst, ◌∙◌, append_assoc, append-nil, flat_map, arith, add-zero}
use Rattle.std.specs.List.{AllByRecursion}
use Rattle.std.specs.Int.{w8, w32}
use Rattle.std.proofs.lemmas.Bool.{cond_both, cond-true, cond-false, eqb-true, eqb-false, eq-eqb, ne_eqb, leb-false, lt-leb, ltb-false, le-ltb, or_parts, or_from}
use Rattle.std.proofs.lemmas.List.{replicate-append-replicate, length-append, length-replicate, drop_more, drop_all, take_all}
use Rattle.std.proofs.lemmas.List.Concat.{flat_map-append}
use Rattle.trace_file.specs.declared.fault.TraceFault.TheVariants.{BadRun, TooLarge}
use Rattle.trace_file.specs.declared.runs.Run.{Run}
use Rattle.trace_file.specs.declared.runs.Before.{Before}
use Rattle.trace_file.specs.Form.{number, both, seen, counted_items}
use Rattle.trace_file.proofs.IsForm.{IsForm}
use Rattle.trace_file.specs.Runs.{run, runs_from, runs_of, schedule_of, at_first, after_run, is_again, run_fault, run_form, runs_form, run_text}
use Rattle.trace_file.proofs.Forms.{BothFit, both_form, checked_form, seen_form, AllFit, CountedFit, counted_form}
use Rattle.trace_file.proofs.Numbers.{wide8, wide32, number_form}
use Rattle.trace_file.proofs.NoFault.{none_if, none_from}

-- ---- the schedule of the runs of a schedule

one_more : (n v : ℕ) (ws : List ℕ) → replicate (n + 1) v ++ ws ≡ replicate n v ++ (v ∷ ws)
one_more n v ws = ap (λ z. z ++ ws) (sym (replicate-append-replicate n 1 v)) ∙ append_assoc (replicate n v) (v ∷ []) ws

from-schedule : (v n : ℕ) (vs : List ℕ) → schedule_of (runs_from v n vs) ≡ replicate n v ++ vs
unfolding runs_from schedule_of
from-schedule v n [] = refl
from-schedule v n (w ∷ ws) =
    cond_both (eqb v w) (runs_from v (n + 1) ws) (run v n ∷ runs_from w 1 ws) (λ rs. schedule_of rs ≡ replicate n v ++ (w ∷ ws))
    (λ e. from-schedule v (n + 1) ws ∙ one_more n v ws ∙ ap (λ x. replicate n v ++ (x ∷ ws)) (eqb-true v w e))
    (λ e. ap (λ z. replicate n v ++ z) (from-schedule w 1 ws))

pub schedule-runs : (s : List ℕ) → schedule_of (runs_of s) ≡ s
unfolding schedule_of
schedule-runs [] = refl
schedule-runs (v ∷ vs) = from-schedule v 1 vs

length-from : (v n : ℕ) (vs : List ℕ) → length (runs_from v n vs) ≤ suc (length vs)
unfolding runs_from
length-from v n [] = omega arith
length-from v n (w ∷ ws) =
    cond_both (eqb v w) (runs_from v (n + 1) ws) (run v n ∷ runs_from w 1 ws) (λ rs. length rs ≤ suc (suc (length ws)))
    (λ e. omega (arith, length-from v (n + 1) ws))
    (λ e. omega (arith, length-from w 1 ws))

pub length-runs : (s : List ℕ) → length (runs_of s) ≤ length s
length-runs [] = omega arith
length-runs (v ∷ vs) = length-from v 1 vs

-- ---- one run

abbrev pub PlainFit : Run → Type 0
PlainFit r = (r.vcpu < 2 ^ 8) × (r.steps < 2 ^ 32)

abbrev pub RunFit : ℕ → ℕ → Before → Run → Type 0
RunFit vcpus k s r = PlainFit r × (run_fault vcpus k s r ≡ None)

pub run_is : (vcpus k : ℕ) (s : Before) → IsForm (RunFit vcpus k s) (run_form vcpus k s)
unfolding run_form
run_is vcpus k s =
    checked_form PlainFit (run_fault vcpus k s) (seen (λ x. run x.0 x.1) (λ r. (r.vcpu, r.steps)) (both (number w8) (λ _. number w32)))
    (seen_form (BothFit (λ n. n < 2 ^ 8) (λ _ n. n < 2 ^ 32) (number w8) (λ _. number w32) (number_form w8 (2 ^ 8) wide8) (λ _. number_form w32 (2 ^ 32) wide32)) (λ x. run x.0 x.1) (λ r. (r.vcpu, r.steps)) (both (number w8) (λ _. number w32))
    (both_form (λ n. n < 2 ^ 8) (λ _ n. n < 2 ^ 32) (number w8) (λ _. number w32) (number_form w8 (2 ^ 8) wide8) (λ _. number_form w32 (2 ^ 32) wide32))
    (λ r. refl) (λ x h. refl))

pub record RunGood (vcpus : ℕ) (s : Before) (r : Run) : Type 0 where
  pub vcpu : r.vcpu < vcpus
  pub some : 0 < r.steps
  pub other : is_again s.vcpu r.vcpu ≡ false
  pub few : s.steps + r.steps ≤ 16777216

pub run_good : (vcpus k : ℕ) (s : Before) (r : Run) → run_fault vcpus k s r ≡ None → RunGood vcpus s r
run_good vcpus k s r e =
    let a = none_if (leb vcpus r.vcpu || eqb r.steps 0 || is_again s.vcpu r.vcpu) (BadRun k) (cond (ltb 16777216 (s.steps + r.steps)) (Some TooLarge) None) e in
    let b = none_if (ltb 16777216 (s.steps + r.steps)) TooLarge None a.1 in
    let c = or_parts (leb vcpus r.vcpu || eqb r.steps 0) (is_again s.vcpu r.vcpu) a.0 in
    let d = or_parts (leb vcpus r.vcpu) (eqb r.steps 0) c.0 in
    let z = eqb-false r.steps 0 d.1 in
    record { vcpu = leb-false vcpus r.vcpu d.0; some = omega (arith, z); other = c.1; few = ltb-false 16777216 (s.steps + r.steps) b.0 }

pub run_free : (vcpus k : ℕ) (s : Before) (r : Run) → RunGood vcpus s r → run_fault vcpus k s r ≡ None
run_free vcpus k s r h =
    let pos = h.some in
    none_from (leb vcpus r.vcpu || eqb r.steps 0 || is_again s.vcpu r.vcpu) (BadRun k) (cond (ltb 16777216 (s.steps + r.steps)) (Some TooLarge) None)
    (or_from (leb vcpus r.vcpu || eqb r.steps 0) (is_again s.vcpu r.vcpu) (or_from (leb vcpus r.vcpu) (eqb r.steps 0) (lt-leb vcpus r.vcpu h.vcpu) (ne_eqb r.steps 0 (λ e. omega arith))) h.other)
    (none_from (ltb 16777216 (s.steps + r.steps)) TooLarge None (le-ltb 16777216 (s.steps + r.steps) h.few) refl)

-- ---- the runs of the schedule of runs

module _ (vcpus : ℕ) where
  abbrev pub AreRuns : ℕ → Before → List Run → Type 0
  AreRuns k s rs = AllFit (RunFit vcpus) (run_form vcpus) after_run (run_is vcpus) k s rs

  grow : (m v n : ℕ) (tail : List ℕ) → runs_from v n (replicate m v ++ tail) ≡ runs_from v (n + m) tail
  unfolding runs_from
  grow zero v n tail = rw add-zero refl
  grow (suc m) v n tail =
      let sum : n + 1 + m ≡ n + suc m = omega arith in
      cond-true (eqb v v) (runs_from v (n + 1) (replicate m v ++ tail)) (run v n ∷ runs_from v 1 (replicate m v ++ tail)) (eq-eqb v v refl)
      ∙ grow m v (n + 1) tail ∙ ap (λ k. runs_from v k tail) sum

  -- behind a run the next is of another vCPU
  stops : (k m v : ℕ) (s : Before) (rs : List Run) → s.vcpu ≡ Some v → AreRuns k s rs → runs_from v m (schedule_of rs) ≡ run v m ∷ runs_of (schedule_of rs)
  unfolding runs_from schedule_of
  stops k m v s [] e h = refl
  stops k m v s (q ∷ qs) e h =
      let good = run_good vcpus k s q h.0.1 in
      let j : q.steps ≡ suc (q.steps - 1) = let pos = good.some in omega arith in
      let other : eqb v q.vcpu ≡ false = ap (λ o. is_again o q.vcpu) (sym e) ∙ good.other in
      let tail : List ℕ = replicate (q.steps - 1) q.vcpu ++ schedule_of qs in
      subst (λ (n : ℕ). runs_from v m (replicate n q.vcpu ++ schedule_of qs) ≡ run v m ∷ runs_of (replicate n q.vcpu ++ schedule_of qs)) (sym j)
      (cond-false (eqb v q.vcpu) (runs_from v (m + 1) tail) (run v m ∷ runs_from q.vcpu 1 tail) other)

  pub runs-schedule : (k : ℕ) (s : Before) (rs : List Run) → AreRuns k s rs → runs_of (schedule_of rs) ≡ rs
  unfolding schedule_of
  runs-schedule k s [] h = refl
  runs-schedule k s (r ∷ rs) h =
      let good = run_good vcpus k s r h.0.1 in
      let n : ℕ = r.steps - 1 in
      let j : r.steps ≡ suc n = let pos = good.some in omega arith in
      let one : 1 + n ≡ r.steps = omega arith in
      let first : runs_of (replicate (suc n) r.vcpu ++ schedule_of rs) ≡ run r.vcpu (1 + n) ∷ runs_of (schedule_of rs) =
      grow n r.vcpu 1 (schedule_of rs) ∙ stops (suc k) (1 + n) r.vcpu (after_run s r) rs refl h.1 in
      ap (λ m. runs_of (replicate m r.vcpu ++ schedule_of rs)) j ∙ first
      ∙ ap (λ m. run r.vcpu m ∷ runs_of (schedule_of rs)) one ∙ ap (λ qs. r ∷ qs) (runs-schedule (suc k) (after_run s r) rs h.1)

  -- ---- what schedules of runs are

  all-more : (n v : ℕ) (vs : List ℕ) → v < vcpus → AllByRecursion (λ w. w < vcpus) vs → AllByRecursion (λ w. w < vcpus) (replicate n v ++ vs)
  all-more zero v vs lt h = h
  all-more (suc n) v vs lt h = (lt, all-more n v vs lt h)

  pub schedule-vcpus : (k : ℕ) (s : Before) (rs : List Run) → AreRuns k s rs → AllByRecursion (λ w. w < vcpus) (schedule_of rs)
  unfolding schedule_of
  schedule-vcpus k s [] h = tt
  schedule-vcpus k s (r ∷ rs) h = all-more r.steps r.vcpu (schedule_of rs) (run_good vcpus k s r h.0.1).vcpu (schedule-vcpus (suc k) (after_run s r) rs h.1)

  pub schedule-steps : (k : ℕ) (s : Before) (rs : List Run) → s.steps ≤ 16777216 → AreRuns k s rs → s.steps + length (schedule_of rs) ≤ 16777216
  unfolding schedule_of
  schedule-steps k s [] le h = omega arith
  schedule-steps k s (r ∷ rs) le h =
      let good = run_good vcpus k s r h.0.1 in
      let few = good.few in
      let more = schedule-steps (suc k) (after_run s r) rs few h.1 in
      omega (arith, length-append (replicate r.steps r.vcpu) (schedule_of rs), length-replicate r.steps r.vcpu)

  -- ---- the runs of a schedule are runs

  fits-one : (k n v : ℕ) (s : Before) → vcpus ≤ 8 → v < vcpus → 0 < n → is_again s.vcpu v ≡ false → s.steps + n ≤ 16777216 → RunFit vcpus k s (run v n)
  fits-one k n v s most lt pos other few =
      ((omega arith, omega arith), run_free vcpus k s (run v n) (record { vcpu = lt; some = pos; other = other; few = few }))

  fits-from : (k n v : ℕ) (s : Before) (vs : List ℕ) → vcpus ≤ 8 → v < vcpus → 0 < n → is_again s.vcpu v ≡ false → s.steps + n + length vs ≤ 16777216 → AllByRecursion (λ w. w < vcpus) vs → AreRuns k s (runs_from v n vs)
  unfolding runs_from
  fits-from k n v s [] most lt pos other few h = (fits-one k n v s most lt pos other (omega arith), tt)
  fits-from k n v s (w ∷ ws) most lt pos other few h =
      cond_both (eqb v w) (runs_from v (n + 1) ws) (run v n ∷ runs_from w 1 ws) (λ rs. AreRuns k s rs)
      (λ e. fits-from k (n + 1) v s ws most lt (omega arith) other (omega arith) h.1)
      (λ e. (fits-one k n v s most lt pos other (omega arith), fits-from (suc k) 1 w (after_run s (run v n)) ws most h.0 (omega arith) e (omega arith) h.1))

  pub runs-fit : (s : List ℕ) → vcpus ≤ 8 → length s ≤ 16777216 → AllByRecursion (λ w. w < vcpus) s → AreRuns 0 at_first (runs_of s)
  runs-fit [] most few h = tt
  runs-fit (v ∷ vs) most few h = fits-from 0 1 v at_first vs most h.0 (omega arith) refl (omega arith) h.1

  -- ---- the form

  abbrev pub RunsFit : List ℕ → Type 0
  RunsFit s = CountedFit (λ n. n < 2 ^ 32) (number w32) (number_form w32 (2 ^ 32) wide32) (RunFit vcpus) (run_form vcpus) after_run (run_is vcpus) at_first (runs_of s)

  pub runs_is : IsForm RunsFit (runs_form vcpus)
  unfolding runs_form
  runs_is =
      seen_form (CountedFit (λ n. n < 2 ^ 32) (number w32) (number_form w32 (2 ^ 32) wide32) (RunFit vcpus) (run_form vcpus) after_run (run_is vcpus) at_first) schedule_of runs_of (counted_items (number w32) (run_form vcpus) after_run at_first)
      (counted_form (λ n. n < 2 ^ 32) (number w32) (number_form w32 (2 ^ 32) wide32) (RunFit vcpus) (run_form vcpus) after_run (run_is vcpus) at_first)
      schedule-runs (λ rs h. runs-schedule 0 at_first rs h.1.1)

  pub runs_lawful : (s : List ℕ) → RunsFit s → AllByRecursion (λ w. w < vcpus) s × (length s ≤ 16777216)
  runs_lawful s h =
      let few : 0 + length (schedule_of (runs_of s)) ≤ 16777216 = schedule-steps 0 at_first (runs_of s) (omega arith) h.1.1 in (
        subst (λ (x : List ℕ). AllByRecursion (λ w. w < vcpus) x) (schedule-runs s) (schedule-vcpus 0 at_first (runs_of s) h.1.1),
        subst (λ (x : List ℕ). length x ≤ 16777216) (schedule-runs s) (omega arith),
      )

  pub lawful_runs : (s : List ℕ) → vcpus ≤ 8 → length s ≤ 16777216 → AllByRecursion (λ w. w < vcpus) s → RunsFit s
  lawful_runs s most few h = (omega (arith, length-runs s), (refl, runs-fit s most few h))

-- ---- the runs of a schedule, step by step

pub runs-same : (runs : List Run) (v n : ℕ) (rest : List ℕ) (i w : ℕ) (total : List Run) → i < length rest → w ≡ get_or rest i w → v ≡ w
    → runs ++ runs_from v n (drop i rest) ≡ total → runs ++ runs_from v (n + 1) (drop (i + 1) rest) ≡ total
unfolding runs_from
runs-same runs v n rest i w total lt is e h =
    let here : drop i rest ≡ w ∷ drop (i + 1) rest = drop_more rest i w lt ∙ ap (λ x. x ∷ drop (i + 1) rest) (sym is) in
    let step : runs_from v n (w ∷ drop (i + 1) rest) ≡ runs_from v (n + 1) (drop (i + 1) rest) =
    cond-true (eqb v w) (runs_from v (n + 1) (drop (i + 1) rest)) (run v n ∷ runs_from w 1 (drop (i + 1) rest)) (eq-eqb v w e) in
    ap (λ z. runs ++ z) (sym (ap (runs_from v n) here ∙ step)) ∙ h

pub runs-other : (runs : List Run) (v n : ℕ) (rest : List ℕ) (i w : ℕ) (total : List Run) → i < length rest → w ≡ get_or rest i w → (v ≡ w → ⊥)
    → runs ++ runs_from v n (drop i rest) ≡ total → (runs ++ run v n ∷ []) ++ runs_from w 1 (drop (i + 1) rest) ≡ total
unfolding runs_from
runs-other runs v n rest i w total lt is e h =
    let here : drop i rest ≡ w ∷ drop (i + 1) rest = drop_more rest i w lt ∙ ap (λ x. x ∷ drop (i + 1) rest) (sym is) in
    let step : runs_from v n (w ∷ drop (i + 1) rest) ≡ run v n ∷ runs_from w 1 (drop (i + 1) rest) =
    cond-false (eqb v w) (runs_from v (n + 1) (drop (i + 1) rest)) (run v n ∷ runs_from w 1 (drop (i + 1) rest)) (ne_eqb v w e) in
    append_assoc runs (run v n ∷ []) (runs_from w 1 (drop (i + 1) rest)) ∙ ap (λ z. runs ++ z) (sym (ap (runs_from v n) here ∙ step)) ∙ h

pub runs-end : (runs : List Run) (v n : ℕ) (rest : List ℕ) (i : ℕ) (total : List Run) → length rest ≤ i → runs ++ runs_from v n (drop i rest) ≡ total → runs ++ run v n ∷ [] ≡ total
unfolding runs_from
runs-end runs v n rest i total le h = sym (ap (λ vs. runs ++ runs_from v n vs) (drop_all i rest le)) ∙ h

pub runs_split : (s : List ℕ) (v : ℕ) → 1 ≤ length s → v ≡ get_or s 0 v → runs_from v 1 (take (length s - 1) (drop 1 s)) ≡ runs_of s
unfolding runs_from
runs_split [] v h e = absurd (omega arith)
runs_split (x ∷ xs) v h e =
    let n : suc (length xs) - 1 ≡ length xs = omega arith in
    ap (λ k. runs_from v 1 (take k xs)) n ∙ ap (λ vs. runs_from v 1 vs) (take_all (length xs) xs (omega arith)) ∙ ap (λ y. runs_from y 1 xs) e

-- so many runs are behind, and the last is of this vCPU
pub record AreCounted (total : List Run) (rest : List ℕ) (last count : ℕ) : Type 0 where
  pub runs : List Run
  pub steps : ℕ
  pub behind : length runs + 1 ≡ count
  pub told : runs ++ runs_from last steps rest ≡ total

pub counted-same : (total : List Run) (rest : List ℕ) (last count i w : ℕ) → i < length rest → w ≡ get_or rest i w → last ≡ w
    → AreCounted total (drop i rest) last count → AreCounted total (drop (i + 1) rest) last count
counted-same total rest last count i w lt is same h = record {
  runs = h.runs;
  steps = h.steps + 1;
  behind = h.behind;
  told = runs-same h.runs last h.steps rest i w total lt is same h.told;
}

pub counted-other : (total : List Run) (rest : List ℕ) (last count i w : ℕ) → i < length rest → w ≡ get_or rest i w → (last ≡ w → ⊥)
    → AreCounted total (drop i rest) last count → AreCounted total (drop (i + 1) rest) w (count + 1)
counted-other total rest last count i w lt is other h =
    let more : length (h.runs ++ run last h.steps ∷ []) ≡ length h.runs + 1 = length-append h.runs (run last h.steps ∷ []) in
    record {
      runs = h.runs ++ run last h.steps ∷ [];
      steps = 1;
      behind = ap (λ n. n + 1) (more ∙ h.behind);
      told = runs-other h.runs last h.steps rest i w total lt is other h.told;
    }

pub counted-end : (total : List Run) (rest : List ℕ) (last count i : ℕ) → length rest ≤ i → AreCounted total (drop i rest) last count → count ≡ length total
counted-end total rest last count i le h =
    let all : h.runs ++ run last h.steps ∷ [] ≡ total = runs-end h.runs last h.steps rest i total le h.told in
    let more : length (h.runs ++ run last h.steps ∷ []) ≡ length h.runs + 1 = length-append h.runs (run last h.steps ∷ []) in
    sym h.behind ∙ sym more ∙ ap length all

-- the runs behind are written, and the last is of this vCPU and so many steps
pub record AreWritten (total : List Run) (start out : List ℕ) (rest : List ℕ) (last steps : ℕ) : Type 0 where
  pub runs : List Run
  pub written : out ≡ start ++ flat_map run_text runs
  pub told : runs ++ runs_from last steps rest ≡ total

-- one more run
written-more : (start out next : List ℕ) (runs : List Run) (r : Run) → out ≡ start ++ flat_map run_text runs → next ≡ out ++ run_text r → next ≡ start ++ flat_map run_text (runs ++ r ∷ [])
written-more start out next runs r written is =
    let one : flat_map run_text (r ∷ []) ≡ run_text r = append-nil (run_text r) in
    is ∙ ap (λ x. x ++ run_text r) written ∙ append_assoc start (flat_map run_text runs) (run_text r)
    ∙ ap (λ x. start ++ x) (sym (flat_map-append run_text runs (r ∷ []) ∙ ap (λ x. flat_map run_text runs ++ x) one))

pub written-same : (total : List Run) (start out : List ℕ) (rest : List ℕ) (last steps i w : ℕ) → i < length rest → w ≡ get_or rest i w → last ≡ w
    → AreWritten total start out (drop i rest) last steps → AreWritten total start out (drop (i + 1) rest) last (steps + 1)
written-same total start out rest last steps i w lt is same h = record {
  runs = h.runs;
  written = h.written;
  told = runs-same h.runs last steps rest i w total lt is same h.told;
}

pub written-other : (total : List Run) (start out next : List ℕ) (rest : List ℕ) (last steps i w : ℕ) → i < length rest → w ≡ get_or rest i w → (last ≡ w → ⊥)
    → next ≡ out ++ run_text (run last steps) → AreWritten total start out (drop i rest) last steps → AreWritten total start next (drop (i + 1) rest) w 1
written-other total start out next rest last steps i w lt is other more h = record {
  runs = h.runs ++ run last steps ∷ [];
  written = written-more start out next h.runs (run last steps) h.written more;
  told = runs-other h.runs last steps rest i w total lt is other h.told;
}

pub written-end : (total : List Run) (start out next : List ℕ) (rest : List ℕ) (last steps i : ℕ) → length rest ≤ i
    → next ≡ out ++ run_text (run last steps) → AreWritten total start out (drop i rest) last steps → next ≡ start ++ flat_map run_text total
written-end total start out next rest last steps i le more h =
    written-more start out next h.runs (run last steps) h.written more
    ∙ ap (λ runs. start ++ flat_map run_text runs) (runs-end h.runs last steps rest i total le h.told)
