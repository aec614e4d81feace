-- Schedules and logs that grow at their ends.
use Rattle.std.proofs.Common.{◌≡◌, ◌≢◌, ℕ, ◌+◌, ◌<◌, ◌≤◌, true, false, Bool, Some, List, [], ◌∷◌, ◌++◌, length, arith, refl, ◌∙◌, sym, ap, subst, append_assoc, length-append}
use Rattle.std.specs.Prelude.{◌==◌, ◌&&◌, nat_le, nat_lt, is_none, slice_index}
use Rattle.std.specs.List.{list_any}
use Rattle.std.proofs.lemmas.List.{append-nil, take-append-le, get_or_append_left, get_or-set_other}
use Rattle.std.proofs.Math.Seq.{get_or-append_seam}
use mathlib.Core.Logic.{dite}
use native.Mathlib.Decide.{dec_lt}
use Rattle.chain_log.specs.declared.entry.LogEntry.{LogEntry}
use Rattle.function_table.specs.Groups.{group_at}
use Rattle.guest_board.specs.Board.{State, may, next_of}
use Rattle.run_evidence.specs.Config.{Config, image_groups, rules_in, is_base, full, full_at, IsLawfulSchedule, view_in, view_at, fetched_at}
use Rattle.run_evidence.specs.Evidence.{AllJustified, is_logged_at, is_group_open, log_in}
use Rattle.run_evidence.specs.Growing.{Begins, RunsAppend, BoardsMove, LawfulGrows, FrontsAreLawful, StoppedStays, AllowedIsFromStart, AllowedFromStays, AllowedFromGrows, AllowedJoins}
use Rattle.run_evidence.specs.Stays.{JustifiedStays}
use Rattle.run_evidence.proofs.Runs.{run_from-append, run_from-more, full_at-now, full_at-more, member-now, lawful-more}
use Rattle.run_evidence.proofs.Stable.{or-weaken}
use Rattle.run_evidence.proofs.Steps.{stopped-step}

-- what came before does not depend on what comes
pub full_at-front : (c : Config) (schedule later : List ℕ) (t : ℕ) → t ≤ length schedule → full_at c (schedule ++ later) t ≡ full_at c schedule t
full_at-front c schedule later t within = ap (λ x. full c x) (take-append-le t schedule later within)

pub member-front : (schedule later : List ℕ) (t : ℕ) → t < length schedule → slice_index (schedule ++ later) t ≡ slice_index schedule t
member-front schedule later t within = get_or_append_left schedule later 0 t within

pub runs_append : RunsAppend
runs_append c schedule later = run_from-append (rules_in c) _ schedule later

pub boards_move : BoardsMove
boards_move c schedule i = ap (λ (s : State). record { rules = rules_in c; state = s; schedule = schedule ++ i ∷ [] }) (run_from-more (rules_in c) _ schedule i)

pub lawful_grows : LawfulGrows
lawful_grows = lawful-more

pub fronts_are_lawful : FrontsAreLawful
fronts_are_lawful c schedule later lawful t within =
    let long : length (schedule ++ later) ≡ length schedule + length later = length-append schedule later in
    let before : full_at c (schedule ++ later) t ≡ full_at c schedule t = full_at-front c schedule later t (omega (arith, within)) in
    let same : slice_index (schedule ++ later) t ≡ slice_index schedule t = member-front schedule later t within in
    rw (before, same) at (lawful t (omega (arith, within, long)))

pub justified_later : JustifiedStays
justified_later c schedule later e j =
    let same : full_at c (schedule ++ later) e.at ≡ full_at c schedule e.at = full_at-front c schedule later e.at j.early in record {
      early = let long = length-append schedule later in let early = j.early in omega arith;
      may_step = rw same j.may_step;
      next = rw same j.next;
      view = rw same j.view;
      group = j.group;
      missing = j.missing;
      chain = rw same j.chain;
    }

any_more : {X : Type 0} (f : X → Bool) (xs ys : List X) → list_any f xs ≡ true → list_any f (xs ++ ys) ≡ true
any_more f [] ys e = absurd cc
any_more f (x ∷ xs) ys e = or-weaken (f x) (list_any f xs) (list_any f (xs ++ ys)) (any_more f xs ys) e

pub logged_more : (log more : List LogEntry) (t g : ℕ) → Begins log more → is_logged_at log t g ≡ true → is_logged_at more t g ≡ true
logged_more log more t g b is =
    let f : LogEntry → Bool = λ e. (e.group == g) && nat_le e.at t in
    subst (λ (z : List LogEntry). list_any f z ≡ true) (sym b.1) (any_more f log b.0 is)

pub allowed_from_stays : AllowedFromStays
allowed_from_stays c schedule from logs more grown all t p low within next =
    let v : ℕ = view_at c schedule t in let g : ℕ = group_at (image_groups c) p in
    or-weaken (is_base c v g) (is_logged_at (log_in logs v) t g) (is_logged_at (log_in more v) t g) (logged_more (log_in logs v) (log_in more v) t g (grown v)) (all t p low within next)

pub allowed_is_from_start : AllowedIsFromStart
allowed_is_from_start c logs schedule = ((λ all t p low within next. all t p within next), λ all t p within next. all t p (omega arith) within next)

-- a step of a front part fetches what it fetched there
front_allowed : (c : Config) (schedule later : List ℕ) (logs : List (List LogEntry)) (t p : ℕ) → t < length schedule
    → (fetched_at c schedule t ≡ Some p → is_group_open c logs (view_at c schedule t) t (group_at (image_groups c) p) ≡ true)
    → fetched_at c (schedule ++ later) t ≡ Some p → is_group_open c logs (view_at c (schedule ++ later) t) t (group_at (image_groups c) p) ≡ true
front_allowed c schedule later logs t p within all next =
    let a : full_at c (schedule ++ later) t ≡ full_at c schedule t = full_at-front c schedule later t (omega (arith, within)) in
    let b : slice_index (schedule ++ later) t ≡ slice_index schedule t = member-front schedule later t within in
    let n : next_of (full_at c schedule t) (slice_index schedule t) ≡ Some p = rw (a, b) at next in
    rw (a, b) (all n)

pub allowed_joins : AllowedJoins
allowed_joins c schedule later logs front all t p within next =
    dite (dec_lt t (length schedule)) (λ old. front_allowed c schedule later logs t p old (λ n. front t p old n) next) (λ new. all t p (omega arith) within next)

pub allowed_from_grows : AllowedFromGrows
allowed_from_grows c schedule i from logs all new t p low within next =
    let long : length (schedule ++ i ∷ []) ≡ length schedule + 1 = length-append schedule (i ∷ []) in
    dite (dec_lt t (length schedule)) (λ old. front_allowed c schedule (i ∷ []) logs t p old (λ n. all t p low old n) next)
    (λ late.
    let last : t ≡ length schedule = omega (arith, within, long, late) in
    let a : full_at c (schedule ++ i ∷ []) t ≡ full c schedule = full_at-more c schedule i t (omega (arith, last)) ∙ (ap (λ x. full_at c schedule x) last ∙ full_at-now c schedule) in
    let b : slice_index (schedule ++ i ∷ []) t ≡ i = member-now schedule i t last in
    let n : next_of (full c schedule) i ≡ Some p = rw (a, b) at next in
    rw (a, b) (subst (λ x. is_group_open c logs (view_in c (full c schedule) i) x (group_at (image_groups c) p) ≡ true) (sym last) (new p n)))

pub stopped_stays : StoppedStays
stopped_stays c schedule [] i stuck lawful = subst (λ z. may (rules_in c) (full c z) i ≡ false) (sym (append-nil schedule)) stuck
stopped_stays c schedule (j ∷ later) i stuck lawful =
    let long = length-append schedule (j ∷ later) in
    let here = lawful (length schedule) (omega arith) in
    let state : full_at c (schedule ++ j ∷ later) (length schedule) ≡ full c schedule = full_at-front c schedule (j ∷ later) (length schedule) (omega arith) ∙ full_at-now c schedule in
    let who : slice_index (schedule ++ j ∷ later) (length schedule) ≡ j = get_or-append_seam schedule j later 0 in
    let goes : may (rules_in c) (full c schedule) j ≡ true = subst (λ (k : ℕ). may (rules_in c) (full c schedule) k ≡ true) who (subst (λ (s : State). may (rules_in c) s (slice_index (schedule ++ j ∷ later) (length schedule)) ≡ true) state here) in
    let next : may (rules_in c) (full c (schedule ++ j ∷ [])) i ≡ false = subst (λ (s : State). may (rules_in c) s i ≡ false) (sym (run_from-more (rules_in c) _ schedule j)) (stopped-step (rules_in c) (full c schedule) i j stuck goes) in
    let whole : (schedule ++ j ∷ []) ++ later ≡ schedule ++ j ∷ later = append_assoc schedule (j ∷ []) later in
    subst (λ z. may (rules_in c) (full c z) i ≡ false) whole (stopped_stays c (schedule ++ j ∷ []) later i next (subst (λ z. IsLawfulSchedule c z) (sym whole) lawful))

pub all_justified_later : (c : Config) (schedule later : List ℕ) (log : List LogEntry) → AllJustified c schedule log → AllJustified c (schedule ++ later) log
all_justified_later c schedule later [] all = tt
all_justified_later c schedule later (e ∷ es) all = (justified_later c schedule later e all.0, all_justified_later c schedule later es all.1)
