-- With one vCPU the logs are the misses so far; one entry more may stand, of the fetch that comes next.
use Rattle.std.proofs.Common.{◌≡◌, ◌≢◌, ℕ, ◌<◌, true, false, Bool, List, [], ◌∷◌, ◌++◌, length, take, refl, sym, ap, subst, ◌∙◌, arith, Some, ◌⊎◌, inl, inr}
use Rattle.std.specs.Prelude.{◌==◌, ◌&&◌, ◌||◌, nat_le, slice_index, slice_set}
use Rattle.std.specs.List.{list_any}
use Rattle.std.proofs.lemmas.Bool.Decides.{nat_tests}
use Rattle.std.proofs.lemmas.List.{get_or-set_other, get_or-set_same, length-map}
use mathlib.Core.Logic.{dite}
use native.Mathlib.Decide.{ℕ_discrete}
use Rattle.chain_log.specs.declared.entry.LogEntry.{LogEntry}
use Rattle.function_table.specs.Groups.{group_at}
use Rattle.view_store.specs.Paged.{PagedView}
use Rattle.guest_board.specs.Board.{may, next_of}
use Rattle.run_evidence.specs.Config.{Config, IsConfig, IsLawfulSchedule, full, full_at, image_groups, is_base, rules_in, view_at}
use Rattle.run_evidence.specs.Evidence.{AllJustified, AllOfView, IsAllowed, IsJustified, IsOnce, is_logged_at, log_in}
use Rattle.run_evidence.specs.Misses.{misses_under, steps_of}
use Rattle.run_evidence.specs.Sound.{IsSoundView}
use Rattle.run_evidence.proofs.Logged.{AllFrom, AllOfSteps, AreOrdered, IsOfStep, log-is-misses}
use Rattle.run_evidence.proofs.OneVcpu.{full-vcpus}
use Rattle.run_evidence.proofs.Steps.{may-slot}
use Rattle.vcpu_core.specs.First.{first_world}
use Rattle.vcpu_core.specs.Missed.{EachLogsMissesSoFar, LogsMissesSoFar}
use Rattle.vcpu_core.specs.Sound.{IsSound}
use Rattle.vcpu_core.specs.World.{erased, go_all, paged_in}
use Rattle.run_evidence.specs.Growing.{logs_of}
use Rattle.vcpu_core.proofs.Kept.{log-of}
use Rattle.vcpu_core.proofs.OneVcpu.{in_order}
use Rattle.vcpu_core.proofs.Start.{sound_of_events}

-- what holds of a log holds of its front
justified-front : (c : Config) (h : List ℕ) (front : List LogEntry) (e : LogEntry) → AllJustified c h (front ++ e ∷ []) → AllJustified c h front × IsJustified c h e
justified-front c h [] e all = (tt, all.0)
justified-front c h (x ∷ xs) e all = let rest = justified-front c h xs e all.1 in ((all.0, rest.0), rest.1)

of-view-front : (v : ℕ) (front : List LogEntry) (e : LogEntry) → AllOfView v (front ++ e ∷ []) → AllOfView v front
of-view-front v [] e all = tt
of-view-front v (x ∷ xs) e all = (all.0, of-view-front v xs e all.1)

or-false : (a b : Bool) → (a || b) ≡ false → (a ≡ false) × (b ≡ false)
or-false true b e = absurd (cc)
or-false false b e = (refl, e)

pair-false : (a b : Bool) → a ≡ false → b ≡ false → (a || b) ≡ false
pair-false true b k e = absurd (cc)
pair-false false b k e = e

none-front : (p : LogEntry → Bool) (front : List LogEntry) (e : LogEntry) → list_any p (front ++ e ∷ []) ≡ false → list_any p front ≡ false
none-front p [] e none = refl
none-front p (x ∷ xs) e none =
    let parts : (p x ≡ false) × (list_any p (xs ++ e ∷ []) ≡ false) = or-false (p x) (list_any p (xs ++ e ∷ [])) none in
    pair-false (p x) (list_any p xs) parts.0 (none-front p xs e parts.1)

none-last : (p : LogEntry → Bool) (front : List LogEntry) (e : LogEntry) → list_any p (front ++ e ∷ []) ≡ false → p e ≡ false
none-last p [] e none = (or-false (p e) false none).0
none-last p (x ∷ xs) e none = none-last p xs e (or-false (p x) (list_any p (xs ++ e ∷ [])) none).1

once-front : (front : List LogEntry) (e : LogEntry) → IsOnce (front ++ e ∷ []) → IsOnce front
once-front [] e once = tt
once-front (x ∷ xs) e once = (none-front (λ (y : LogEntry). y.group == x.group) xs e once.0, once-front xs e once.1)

from-front : (n : ℕ) (front : List LogEntry) (e : LogEntry) → AllFrom n (front ++ e ∷ []) → AllFrom n front
from-front n [] e all = tt
from-front n (x ∷ xs) e all = (all.0, from-front n xs e all.1)

ordered-front : (front : List LogEntry) (e : LogEntry) → AreOrdered (front ++ e ∷ []) → AreOrdered front
ordered-front [] e o = tt
ordered-front (x ∷ xs) e o = (from-front x.at xs e o.0, ordered-front xs e o.1)

steps-front : (front : List LogEntry) (e : LogEntry) → steps_of (front ++ e ∷ []) ≡ steps_of front ++ e.at ∷ []
steps-front [] e = refl
steps-front (x ∷ xs) e = ap (λ (ts : List ℕ). x.at ∷ ts) (steps-front xs e)

-- a later entry does not log a group for an earlier step
logged-front : (front : List LogEntry) (e : LogEntry) (t g : ℕ) → t < e.at → is_logged_at (front ++ e ∷ []) t g ≡ is_logged_at front t g
logged-front [] e t g later = grind (arith, nat_tests, later)
logged-front (x ∷ xs) e t g later = ap (λ b. ((x.group == g) && nat_le x.at t) || b) (logged-front xs e t g later)

module _ (c : Config) (one : c.setup.vcpus ≡ 1) (h : List ℕ) (lawful : IsLawfulSchedule c h) where
  alone : (schedule : List ℕ) (i : ℕ) → may (rules_in c) (full c schedule) i ≡ true → i ≡ 0
  alone schedule i m = omega (arith, may-slot (rules_in c) (full c schedule) i m, full-vcpus c schedule, one)

  -- an entry of an earlier moment is of the step that was made then
  earlier-step : (e : LogEntry) → e.at ≢ length h → IsJustified c h e → IsOfStep h e
  earlier-step e before j =
      let within : e.at < length h = omega (arith, j.early, before) in
      record { within = within; vcpu = alone (take e.at h) e.vcpu j.may_step ∙ sym (alone (take e.at h) (slice_index h e.at) (lawful e.at within)) }

  -- entries of this moment are of one group
  next-now : (e : LogEntry) → e.at ≡ length h → IsJustified c h e → next_of (full_at c h (length h)) 0 ≡ Some e.pc
  next-now e now j =
      subst (λ t. next_of (full_at c h t) 0 ≡ Some e.pc) now
      (subst (λ i. next_of (full_at c h e.at) i ≡ Some e.pc) (alone (take e.at h) e.vcpu j.may_step) j.next)

  group-now : (e x : LogEntry) → e.at ≡ length h → x.at ≡ length h → IsJustified c h e → IsJustified c h x → x.group ≡ e.group
  group-now e x now then j k =
      let here : next_of (full_at c h (length h)) 0 ≡ Some e.pc = next-now e now j in
      let there : next_of (full_at c h (length h)) 0 ≡ Some x.pc = next-now x then k in
      let same : x.pc ≡ e.pc = cc in
      k.group ∙ ap (λ p. group_at (image_groups c) p) same ∙ sym j.group

  -- entries of steps that were made, and one of this moment
  record HasLast (log : List LogEntry) : Type 0 where
    front : List LogEntry
    last : LogEntry
    is : log ≡ front ++ last ∷ []
    steps : AllOfSteps h front
    now : last.at ≡ length h

  last-now : (e : LogEntry) (es : List LogEntry) → e.at ≡ length h → AllFrom e.at es → AllOfSteps h es → HasLast (e ∷ es)
  last-now e [] now from steps = record { front = []; last = e; is = refl; steps = tt; now = now }
  last-now e (x ∷ xs) now from steps = let early : x.at < length h = steps.0.within in absurd (omega (arith, now, from.0, early))

  last-more : (e : LogEntry) (es : List LogEntry) → IsOfStep h e → HasLast es → HasLast (e ∷ es)
  last-more e es step r = record { front = e ∷ r.front; last = r.last; is = ap (λ (l : List LogEntry). e ∷ l) r.is; steps = (step, r.steps); now = r.now }

  same-test : (m n : ℕ) → m ≡ n → (m == n) ≡ true
  same-test m n e = grind (arith, nat_tests, e)

  only-last : (e : LogEntry) (es : List LogEntry) → e.at ≡ length h → IsJustified c h e → AllJustified c h es → list_any (λ (x : LogEntry). x.group == e.group) es ≡ false → HasLast es → ⊥
  only-last e es now j all none r =
      let k : IsJustified c h r.last = (justified-front c h r.front r.last (subst (λ (l : List LogEntry). AllJustified c h l) r.is all)).1 in
      let no : (r.last.group == e.group) ≡ false =
      none-last (λ (x : LogEntry). x.group == e.group) r.front r.last (subst (λ (l : List LogEntry). list_any (λ (x : LogEntry). x.group == e.group) l ≡ false) r.is none) in
      let yes : (r.last.group == e.group) ≡ true = same-test r.last.group e.group (group-now e r.last now r.now j k) in
      let z : true ≡ false = sym yes ∙ no in
      cc

  split : (log : List LogEntry) → AreOrdered log → AllJustified c h log → IsOnce log → AllOfSteps h log ⊎ HasLast log
  split [] o all once = inl tt
  split (e ∷ es) o all once =
      let rest : AllOfSteps h es ⊎ HasLast es = split es o.1 all.1 once.1 in
      dite (ℕ_discrete e.at (length h))
      (λ now. elim rest [
        | inl steps ↦ inr (last-now e es now o.0 steps)
        | inr r ↦ absurd (only-last e es now all.0 all.1 once.0 r)
      ])
      (λ before.
      let step : IsOfStep h e = earlier-step e before all.0 in
      elim rest [
        | inl steps ↦ inl (step, steps)
        | inr r ↦ inr (last-more e es step r)
      ])

module _ (c : Config) (h : List ℕ) (logs : List (List LogEntry)) (v : ℕ) (front : List LogEntry) (e : LogEntry) (inside : v < length logs)
    (here : log_in logs v ≡ front ++ e ∷ []) (now : e.at ≡ length h) where
  front-log : log_in (slice_set logs v front) v ≡ front
  front-log = get_or-set_same logs v front [] inside

  same-logged : (u t g : ℕ) → t < length h → is_logged_at (log_in (slice_set logs v front) u) t g ≡ is_logged_at (log_in logs u) t g
  same-logged u t g within =
      dite (ℕ_discrete u v)
      (λ same. subst (λ w. is_logged_at (log_in (slice_set logs v front) w) t g ≡ is_logged_at (log_in logs w) t g) (sym same)
      (ap (λ (l : List LogEntry). is_logged_at l t g) front-log ∙ sym (logged-front front e t g (omega (arith, now, within))) ∙ ap (λ (l : List LogEntry). is_logged_at l t g) (sym here)))
      (λ other. ap (λ (l : List LogEntry). is_logged_at l t g) (get_or-set_other logs v u front [] other))

  front-allowed : IsAllowed c logs h → IsAllowed c (slice_set logs v front) h
  front-allowed allowed t p within next =
      ap (λ b. is_base c (view_at c h t) (group_at (image_groups c) p) || b) (same-logged (view_at c h t) t (group_at (image_groups c) p) within) ∙ allowed t p within next

  front-misses : IsAllowed c logs h → AllJustified c h (front ++ e ∷ []) → AllOfView v (front ++ e ∷ []) → IsOnce (front ++ e ∷ []) → AllOfSteps h front → AreOrdered (front ++ e ∷ [])
      → steps_of (front ++ e ∷ []) ≡ misses_under c h v ++ length h ∷ []
  front-misses allowed just of_view once steps ordered =
      let those : steps_of front ≡ misses_under c h v =
      log-is-misses c h (slice_set logs v front) v front front-log (front-allowed allowed) (justified-front c h front e just).0 (of-view-front v front e of_view) (once-front front e once) steps
      (ordered-front front e ordered) in
      steps-front front e ∙ ap (λ (ts : List ℕ). ts ++ e.at ∷ []) those ∙ ap (λ n. misses_under c h v ++ n ∷ []) now

so-far : (c : Config) (h : List ℕ) (logs : List (List LogEntry)) (v : ℕ) (log : List LogEntry) → c.setup.vcpus ≡ 1 → IsLawfulSchedule c h → v < length logs → log_in logs v ≡ log → IsAllowed c logs h
    → AllJustified c h log → AllOfView v log → IsOnce log → AreOrdered log → LogsMissesSoFar c log h v
so-far c h logs v log one lawful inside here allowed just of_view once ordered = elim (split c one h lawful log ordered just once) [
  | inl steps ↦ inl (log-is-misses c h logs v log here allowed just of_view once steps ordered)
  | inr r ↦ inr (ap (λ (l : List LogEntry). steps_of l) r.is ∙ front-misses c h logs v r.front r.last inside (here ∙ r.is) r.now allowed
      (subst (λ (l : List LogEntry). AllJustified c h l) r.is just) (subst (λ (l : List LogEntry). AllOfView v l) r.is of_view)
      (subst (λ (l : List LogEntry). IsOnce l) r.is once) r.steps (subst (λ (l : List LogEntry). AreOrdered l) r.is ordered))
]

pub each_logs_misses_so_far : (c : Config) → IsConfig c → c.setup.vcpus ≡ 1 → (is : List ℕ) → EachLogsMissesSoFar c (go_all (first_world c) is) (erased (first_world c) is)
each_logs_misses_so_far c ok one is v inside =
    let s : IsSound c (go_all (first_world c) is) (erased (first_world c) is) = sound_of_events c ok is in
    let p : IsSoundView c (erased (first_world c) is) v (paged_in (go_all (first_world c) is).paged_views v) = s.views v inside in
    let long : length (logs_of (go_all (first_world c) is).paged_views) ≡ length (go_all (first_world c) is).paged_views =
    length-map (go_all (first_world c) is).paged_views (λ (q : PagedView). q.log) in
    so-far c (erased (first_world c) is) (logs_of (go_all (first_world c) is).paged_views) v (paged_in (go_all (first_world c) is).paged_views v).log one s.lawful (omega (arith, long, inside))
    (log-of (go_all (first_world c) is).paged_views v) s.allowed p.justified p.of_view p.once ((in_order c ok one is).logs v inside)
