-- What is evidence stays evidence when the schedule and the logs grow.
use Rattle.std.proofs.Common.{◌≡◌, ℕ, ◌+◌, ◌<◌, ◌≤◌, true, false, Bool, List, [], ◌∷◌, ◌++◌, length, arith, refl, ◌∙◌, sym, ap, subst, Some, length-append}
use Rattle.std.specs.Prelude.{◌==◌, ◌||◌, slice_index}
use Rattle.std.specs.List.{list_any}
use Rattle.std.proofs.lemmas.Grind.{common_steps}
use Rattle.std.proofs.lemmas.Bool.Decides.{nat_tests}
use Rattle.chain_log.specs.declared.entry.LogEntry.{LogEntry}
use Rattle.function_table.specs.Groups.{group_at}
use Rattle.guest_board.specs.Board.{next_of}
use Rattle.run_evidence.specs.Config.{Config, image_groups, is_base, full, full_at, view_in, view_at}
use Rattle.run_evidence.specs.Evidence.{IsJustified, AllJustified, IsAllowed, IsOnce, AllOfView, is_logged_at, is_group_open, log_in}
use Rattle.run_evidence.proofs.Runs.{full_at-more, full_at-now, member-more, member-now}

-- an entry stays justified
pub justified-more : (c : Config) (schedule : List ℕ) (i : ℕ) (e : LogEntry) → IsJustified c schedule e → IsJustified c (schedule ++ i ∷ []) e
justified-more c schedule i e j = record {
  early = simp length-append (omega (arith, j.early));
  may_step = rw (full_at-more c schedule i e.at j.early) j.may_step;
  next = rw (full_at-more c schedule i e.at j.early) j.next;
  view = rw (full_at-more c schedule i e.at j.early) j.view;
  group = j.group;
  missing = j.missing;
  chain = rw (full_at-more c schedule i e.at j.early) j.chain;
}

pub all_justified-more : (c : Config) (schedule : List ℕ) (i : ℕ) (log : List LogEntry) → AllJustified c schedule log → AllJustified c (schedule ++ i ∷ []) log
all_justified-more c schedule i [] all = tt
all_justified-more c schedule i (e ∷ es) all = (justified-more c schedule i e all.0, all_justified-more c schedule i es all.1)

pub all_justified-push : (c : Config) (schedule : List ℕ) (e : LogEntry) (log : List LogEntry) → AllJustified c schedule log → IsJustified c schedule e
    → AllJustified c schedule (log ++ e ∷ [])
all_justified-push c schedule e [] all new = (new, tt)
all_justified-push c schedule e (x ∷ xs) all new = (all.0, all_justified-push c schedule e xs all.1 new)

pub of_view-push : (v : ℕ) (e : LogEntry) (log : List LogEntry) → AllOfView v log → e.view ≡ v → AllOfView v (log ++ e ∷ [])
of_view-push v e [] all new = (new, tt)
of_view-push v e (x ∷ xs) all new = (all.0, of_view-push v e xs all.1 new)

-- a logged group was logged by now
pub is_logged-now : (c : Config) (schedule : List ℕ) (g : ℕ) (log : List LogEntry) → AllJustified c schedule log
    → list_any (λ e. e.group == g) log ≡ true → is_logged_at log (length schedule) g ≡ true
is_logged-now c schedule g [] all h = absurd (cc)
is_logged-now c schedule g (e ∷ es) all h =
    let rest : list_any (λ (x : LogEntry). x.group == g) es ≡ true → is_logged_at es (length schedule) g ≡ true = is_logged-now c schedule g es all.1 in
    let early : e.at ≤ length schedule = all.0.early in
    grind (arith, nat_tests, rest, early, h)

-- a log that grows has as much
pub is_logged-push : (log : List LogEntry) (e : LogEntry) (t g : ℕ) → is_logged_at log t g ≡ true → is_logged_at (log ++ e ∷ []) t g ≡ true
is_logged-push log e t g h = grind (arith, common_steps, h)

-- no group twice
pub once-push : (e : LogEntry) (log : List LogEntry) → IsOnce log → list_any (λ x. x.group == e.group) log ≡ false → IsOnce (log ++ e ∷ [])
once-push e [] once new = (refl, tt)
once-push e (x ∷ xs) once new =
    let other : (x.group == e.group) ≡ false = grind (arith, nat_tests, new) in
    let rest : list_any (λ (y : LogEntry). y.group == e.group) xs ≡ false = grind (arith, nat_tests, new) in
    (grind (arith, common_steps, once.0, other), once-push e xs once.1 rest)

pub or-weaken : (a b d : Bool) → (b ≡ true → d ≡ true) → (a || b) ≡ true → (a || d) ≡ true
or-weaken true b d f e = refl
or-weaken false b d f e = f e

-- logs that have as much allow as much
pub allowed-weaken : (c : Config) (schedule : List ℕ) (logs more : List (List LogEntry))
    → ((v t g : ℕ) → is_logged_at (log_in logs v) t g ≡ true → is_logged_at (log_in more v) t g ≡ true) → IsAllowed c logs schedule → IsAllowed c more schedule
allowed-weaken c schedule logs more kept all t p within next =
    or-weaken (is_base c (view_at c schedule t) (group_at (image_groups c) p)) (is_logged_at (log_in logs (view_at c schedule t)) t (group_at (image_groups c) p))
    (is_logged_at (log_in more (view_at c schedule t)) t (group_at (image_groups c) p)) (kept (view_at c schedule t) t (group_at (image_groups c) p)) (all t p within next)

-- one more step, whose fetch is allowed
pub allowed-more : (c : Config) (schedule : List ℕ) (i : ℕ) (logs : List (List LogEntry)) → IsAllowed c logs schedule
    → ((p : ℕ) → next_of (full c schedule) i ≡ Some p → is_group_open c logs (view_in c (full c schedule) i) (length schedule) (group_at (image_groups c) p) ≡ true)
    → IsAllowed c logs (schedule ++ i ∷ [])
allowed-more c schedule i logs all new t p within next =
    let some : t < length schedule + 1 = simp length-append at within in
    let same : t ≤ length schedule → full_at c (schedule ++ i ∷ []) t ≡ full_at c schedule t = full_at-more c schedule i t in
    let before : t < length schedule → is_group_open c logs (view_at c (schedule ++ i ∷ []) t) t (group_at (image_groups c) p) ≡ true = λ h.
    let a : full_at c (schedule ++ i ∷ []) t ≡ full_at c schedule t = same (omega arith) in
    let b : slice_index (schedule ++ i ∷ []) t ≡ slice_index schedule t = member-more schedule i t h in
    let n : next_of (full_at c schedule t) (slice_index schedule t) ≡ Some p = rw (a, b) at next in
    rw (a, b) (all t p h n) in
    let now : t ≡ length schedule → is_group_open c logs (view_at c (schedule ++ i ∷ []) t) t (group_at (image_groups c) p) ≡ true = λ h.
    let a : full_at c (schedule ++ i ∷ []) t ≡ full c schedule = same (omega arith) ∙ ap (λ x. full_at c schedule x) h ∙ full_at-now c schedule in
    let b : slice_index (schedule ++ i ∷ []) t ≡ i = member-now schedule i t h in
    let n : next_of (full c schedule) i ≡ Some p = rw (a, b) at next in
    rw (a, b) (subst (λ x. is_group_open c logs (view_in c (full c schedule) i) x (group_at (image_groups c) p) ≡ true) (sym h) (new p n)) in
    grind (arith, before, now, some)
