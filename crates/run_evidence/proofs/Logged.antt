-- A log of one view, whose entries are in order and each of the vCPU that steps then, has exactly the misses under it.
use Rattle.std.proofs.Common.{◌≡◌, ℕ, ◌<◌, ◌≤◌, true, false, Bool, List, [], ◌∷◌, ◌++◌, length, refl, sym, ap, subst, ◌∙◌, arith, Some, inl, inr}
use Rattle.std.specs.Prelude.{◌==◌, ◌&&◌, ◌||◌, nat_le, slice_index}
use Rattle.std.specs.List.{list_any}
use Rattle.std.proofs.lemmas.Bool.Decides.{nat_tests}
use Rattle.chain_log.specs.declared.entry.LogEntry.{LogEntry}
use Rattle.function_table.specs.Groups.{group_at}
use Rattle.guest_board.specs.Board.{next_of}
use Rattle.run_evidence.specs.Config.{Config, image_groups, is_base, full_at, view_in, fetched_at, view_at}
use Rattle.run_evidence.specs.Evidence.{IsJustified, AllJustified, IsAllowed, IsOnce, AllOfView, is_logged_at, is_group_open, log_in}
use Rattle.run_evidence.specs.Misses.{is_of_group, is_fetch, was_fetched, misses_under, steps_of}
use Rattle.run_evidence.proofs.Ascending.{Among, AllAbove, AreAscending, same-members}
use Rattle.run_evidence.proofs.Missed.{same-test, test-same, both, pair-up, other, IsPlaceOf, place-of, of-place, IsEarlier, earlier, fetched-earlier, IsMissing, miss-parts, parts-miss, under-ascends, under-among, IsUnder, among-under}

-- the entry was made at a step of the schedule, by the vCPU that steps then
pub record IsOfStep (schedule : List ℕ) (e : LogEntry) : Type 0 where
  pub within : e.at < length schedule
  pub vcpu : e.vcpu ≡ slice_index schedule e.at

abbrev pub AllOfSteps : List ℕ → List LogEntry → Type 0
AllOfSteps schedule [] = Unit {0}
AllOfSteps schedule (e ∷ es) = IsOfStep schedule e × AllOfSteps schedule es

-- no entry trapped before an earlier one of the log
abbrev pub AllFrom : ℕ → List LogEntry → Type 0
AllFrom n [] = Unit {0}
AllFrom n (e ∷ es) = (n ≤ e.at) × AllFrom n es

abbrev pub AreOrdered : List LogEntry → Type 0
AreOrdered [] = Unit {0}
AreOrdered (e ∷ es) = AllFrom e.at es × AreOrdered es

from-push : (n : ℕ) (e : LogEntry) (log : List LogEntry) → AllFrom n log → n ≤ e.at → AllFrom n (log ++ e ∷ [])
from-push n e [] all h = (h, tt)
from-push n e (x ∷ xs) all h = (all.0, from-push n e xs all.1 h)

-- an entry of this moment stands last
pub ordered-push : (c : Config) (schedule : List ℕ) (e : LogEntry) (log : List LogEntry) → AllJustified c schedule log → e.at ≡ length schedule → AreOrdered log
    → AreOrdered (log ++ e ∷ [])
ordered-push c schedule e [] all now o = (tt, tt)
ordered-push c schedule e (x ∷ xs) all now o =
    (from-push x.at e xs o.0 (let early : x.at ≤ length schedule = all.0.early in omega (arith, early, now)), ordered-push c schedule e xs all.1 now o.1)

-- what holds of each entry
justified-at : (c : Config) (schedule : List ℕ) (e : LogEntry) (log : List LogEntry) → AllJustified c schedule log → Among e log → IsJustified c schedule e
justified-at c schedule e [] all m = absurd m
justified-at c schedule e (x ∷ xs) all m = elim m [
  | inl s ↦ subst (λ y. IsJustified c schedule y) (sym s) all.0
  | inr r ↦ justified-at c schedule e xs all.1 r
]

of-view-at : (v : ℕ) (e : LogEntry) (log : List LogEntry) → AllOfView v log → Among e log → e.view ≡ v
of-view-at v e [] all m = absurd m
of-view-at v e (x ∷ xs) all m = elim m [
  | inl s ↦ ap (λ (y : LogEntry). y.view) s ∙ all.0
  | inr r ↦ of-view-at v e xs all.1 r
]

of-step-at : (schedule : List ℕ) (e : LogEntry) (log : List LogEntry) → AllOfSteps schedule log → Among e log → IsOfStep schedule e
of-step-at schedule e [] all m = absurd m
of-step-at schedule e (x ∷ xs) all m = elim m [
  | inl s ↦ subst (λ y. IsOfStep schedule y) (sym s) all.0
  | inr r ↦ of-step-at schedule e xs all.1 r
]

-- the steps of a log's entries are its entries' steps
among-steps : (e : LogEntry) (log : List LogEntry) → Among e log → Among e.at (steps_of log)
among-steps e [] m = absurd m
among-steps e (x ∷ xs) m = elim m [ inl s ↦ inl (ap (λ (y : LogEntry). y.at) s) | inr r ↦ inr (among-steps e xs r) ]

record IsEntryAt (log : List LogEntry) (t : ℕ) : Type 0 where
  pub entry : LogEntry
  pub among : Among entry log
  pub at : t ≡ entry.at

steps-among : (t : ℕ) (log : List LogEntry) → Among t (steps_of log) → IsEntryAt log t
steps-among t [] m = absurd m
steps-among t (x ∷ xs) m = elim m [
  | inl s ↦ record { entry = x; among = inl refl; at = s }
  | inr r ↦ (let k : IsEntryAt xs t = steps-among t xs r in record { entry = k.entry; among = inr k.among; at = k.at })
]

-- an entry by which group g was logged at or before step t
record IsLoggedBy (log : List LogEntry) (t g : ℕ) : Type 0 where
  pub entry : LogEntry
  pub among : Among entry log
  pub group : entry.group ≡ g
  pub early : entry.at ≤ t

le-test : (a b : ℕ) → nat_le a b ≡ true → a ≤ b
le-test a b t = grind (arith, nat_tests, t)

logged-by : (log : List LogEntry) (t g : ℕ) → is_logged_at log t g ≡ true → IsLoggedBy log t g
logged-by [] t g e = absurd (cc)
logged-by (x ∷ xs) t g e =
    elim ((x.group == g) && nat_le x.at t) as (λ b. ((x.group == g) && nat_le x.at t) ≡ b → (b || is_logged_at xs t g) ≡ true → IsLoggedBy (x ∷ xs) t g) [
      | true ↦ λ k z. record { entry = x; among = inl refl; group = test-same x.group g (both _ _ k).0; early = le-test x.at t (both _ _ k).1 }
      | false ↦ λ k z. (let r : IsLoggedBy xs t g = logged-by xs t g z in record { entry = r.entry; among = inr r.among; group = r.group; early = r.early })
    ] refl e

any-group : (g : ℕ) (e : LogEntry) (log : List LogEntry) → Among e log → e.group ≡ g → list_any (λ (x : LogEntry). x.group == g) log ≡ true
any-group g e [] m s = absurd m
any-group g e (x ∷ xs) m s =
    elim (x.group == g) as (λ b. (x.group == g) ≡ b → (b || list_any (λ (y : LogEntry). y.group == g) xs) ≡ true) [
      | true ↦ λ k. refl
      | false ↦ λ k. elim m [
        | inl w ↦ (let no : true ≡ false = sym (same-test x.group g (ap (λ (y : LogEntry). y.group) (sym w) ∙ s)) ∙ k in absurd (cc))
        | inr r ↦ any-group g e xs r s
      ]
    ] refl

-- a group is logged once: an entry that has it is the one
one-of-group : (log : List LogEntry) (e x : LogEntry) → IsOnce log → Among e log → Among x log → e.group ≡ x.group → e ≡ x
one-of-group [] e x once m n s = absurd m
one-of-group (y ∷ ys) e x once m n s = elim m [
  | inl a ↦ elim n [
    | inl b ↦ a ∙ sym b
    | inr b ↦ (let no : true ≡ false = sym (any-group y.group x ys b (sym s ∙ ap (λ (z : LogEntry). z.group) a)) ∙ once.0 in absurd (cc))
  ]
  | inr a ↦ elim n [
    | inl b ↦ (let no : true ≡ false = sym (any-group y.group e ys a (s ∙ ap (λ (z : LogEntry). z.group) b)) ∙ once.0 in absurd (cc))
    | inr b ↦ one-of-group ys e x once.1 a b s
  ]
]

-- two entries of one step are of one group
same-pc : (c : Config) (schedule : List ℕ) (e x : LogEntry) → IsJustified c schedule e → IsJustified c schedule x → IsOfStep schedule e → IsOfStep schedule x → e.at ≡ x.at → e.group ≡ x.group
same-pc c schedule e x j k s t a =
    let same : e.vcpu ≡ x.vcpu = s.vcpu ∙ ap (λ n. slice_index schedule n) a ∙ sym t.vcpu in
    let next : next_of (full_at c schedule x.at) x.vcpu ≡ Some e.pc = subst (λ i. next_of (full_at c schedule x.at) i ≡ Some e.pc) same (subst (λ n. next_of (full_at c schedule n) e.vcpu ≡ Some e.pc) a j.next) in
    let some : Some e.pc ≡ Some x.pc = sym next ∙ k.next in
    let place : e.pc ≡ x.pc = cc in
    j.group ∙ ap (λ p. group_at (image_groups c) p) place ∙ sym k.group

above-steps : (c : Config) (schedule : List ℕ) (e : LogEntry) (log : List LogEntry) → IsJustified c schedule e → IsOfStep schedule e → AllFrom e.at log → AllJustified c schedule log → AllOfSteps schedule log
    → list_any (λ (x : LogEntry). x.group == e.group) log ≡ false → AllAbove e.at (steps_of log)
above-steps c schedule e [] j s from all steps none = tt
above-steps c schedule e (x ∷ xs) j s from all steps none =
    let one : (x.group == e.group) ≡ false = (neither (x.group == e.group) (list_any (λ (y : LogEntry). y.group == e.group) xs) none).0 in
    let rest : list_any (λ (y : LogEntry). y.group == e.group) xs ≡ false = (neither (x.group == e.group) (list_any (λ (y : LogEntry). y.group == e.group) xs) none).1 in
    let differ : e.at ≡ x.at → ⊥ = λ a. let no : true ≡ false = sym (same-test x.group e.group (sym (same-pc c schedule e x j all.0 s steps.0 a))) ∙ one in absurd (cc) in
    (strict e.at x.at from.0 differ, above-steps c schedule e xs j s from.1 all.1 steps.1 rest)
  where
    neither : (a b : Bool) → (a || b) ≡ false → (a ≡ false) × (b ≡ false)
    neither true b k = absurd (cc)
    neither false b k = (refl, k)

    strict : (a b : ℕ) → a ≤ b → (a ≡ b → ⊥) → a < b
    strict a b l n = omega (arith, l, n)

steps-ascend : (c : Config) (schedule : List ℕ) (log : List LogEntry) → AreOrdered log → AllJustified c schedule log → AllOfSteps schedule log → IsOnce log → AreAscending (steps_of log)
steps-ascend c schedule [] o all steps once = tt
steps-ascend c schedule (e ∷ es) o all steps once =
    (above-steps c schedule e es all.0 steps.0 o.0 all.1 steps.1 once.0, steps-ascend c schedule es o.1 all.1 steps.1 once.1)

module _ (c : Config) (h : List ℕ) (logs : List (List LogEntry)) (v : ℕ) (log : List LogEntry) (here : log_in logs v ≡ log) (allowed : IsAllowed c logs h)
    (just : AllJustified c h log) (of_view : AllOfView v log) (once : IsOnce log) (steps : AllOfSteps h log) (ordered : AreOrdered log) where
  -- the step of an entry fetches its place under the view
  record IsFetched (e : LogEntry) : Type 0 where
    pub within : e.at < length h
    pub next : fetched_at c h e.at ≡ Some e.pc
    pub view : view_at c h e.at ≡ v
    pub group : e.group ≡ group_at (image_groups c) e.pc
    pub missing : is_base c v e.group ≡ false

  entry-fetched : (e : LogEntry) → Among e log → IsFetched e
  entry-fetched e m =
      let j : IsJustified c h e = justified-at c h e log just m in
      let s : IsOfStep h e = of-step-at h e log steps m in
      let w : e.view ≡ v = of-view-at v e log of_view m in
      record {
        within = s.within;
        next = subst (λ i. next_of (full_at c h e.at) i ≡ Some e.pc) s.vcpu j.next;
        view = subst (λ i. view_in c (full_at c h e.at) i ≡ v) s.vcpu (j.view ∙ w);
        group = j.group;
        missing = subst (λ u. is_base c u e.group ≡ false) w j.missing;
      }

  -- a group that the base lacks and that a step fetches under the view is logged by then
  logged-then : (t p g : ℕ) → t < length h → fetched_at c h t ≡ Some p → view_at c h t ≡ v → group_at (image_groups c) p ≡ g → is_base c v g ≡ false → is_logged_at log t g ≡ true
  logged-then t p g l n w s b =
      let a : is_group_open c logs v t (group_at (image_groups c) p) ≡ true = subst (λ u. is_group_open c logs u t (group_at (image_groups c) p) ≡ true) w (allowed t p l n) in
      let d : is_group_open c logs v t g ≡ true = subst (λ x. is_group_open c logs v t x ≡ true) s a in
      subst (λ x. is_logged_at x t g ≡ true) here (other (is_base c v g) (is_logged_at (log_in logs v) t g) b d)

  -- no step before that of an entry fetches its group
  entry-fresh : (e : LogEntry) → Among e log → was_fetched c h v e.group e.at ≡ false
  entry-fresh e m =
      elim (was_fetched c h v e.group e.at) as (λ b. was_fetched c h v e.group e.at ≡ b → b ≡ false) [
        | true ↦ λ t. absurd (never (earlier c h v e.group e.at t))
        | false ↦ λ t. refl
      ] refl
    where
      never : IsEarlier c h v e.group e.at → ⊥
      never k =
          let f : IsFetched e = entry-fetched e m in
          let both_are : ((view_at c h k.at == v) ≡ true) × (is_of_group c (fetched_at c h k.at) e.group ≡ true) =
          both (view_at c h k.at == v) (is_of_group c (fetched_at c h k.at) e.group) k.fetch in
          let w : view_at c h k.at ≡ v = test-same (view_at c h k.at) v both_are.0 in
          let p : IsPlaceOf c (fetched_at c h k.at) e.group = place-of c (fetched_at c h k.at) e.group both_are.1 in
          let l : is_logged_at log k.at e.group ≡ true = logged-then k.at p.place e.group (omega (arith, k.below, f.within)) p.next_is w p.group f.missing in
          let x : IsLoggedBy log k.at e.group = logged-by log k.at e.group l in
          let same : e.at ≡ x.entry.at = ap (λ (y : LogEntry). y.at) (one-of-group log e x.entry once m x.among (sym x.group)) in
          omega (arith, k.below, x.early, same)

  entry-under : (e : LogEntry) → Among e log → Among e.at (misses_under c h v)
  entry-under e m =
      let f : IsFetched e = entry-fetched e m in
      under-among c h v e.at f.within (parts-miss c h e.at (record {
        place = e.pc;
        next = f.next;
        missing = ap (λ u. is_base c u (group_at (image_groups c) e.pc)) f.view ∙ ap (λ g. is_base c v g) (sym f.group) ∙ f.missing;
        fresh = ap (λ u. was_fetched c h u (group_at (image_groups c) e.pc) e.at) f.view ∙ ap (λ g. was_fetched c h v g e.at) (sym f.group) ∙ entry-fresh e m;
      })) f.view

  under-entry : (t : ℕ) → Among t (misses_under c h v) → Among t (steps_of log)
  under-entry t m = made (among-under c h v t m) where
    found : (g : ℕ) → was_fetched c h v g t ≡ false → (x : IsLoggedBy log t g) → Among t (steps_of log)
    found g fresh x =
        let f : IsFetched x.entry = entry-fetched x.entry x.among in
        let not_before : x.entry.at < t → ⊥ = λ l.
        let fetch : is_fetch c h v g x.entry.at ≡ true = pair-up _ _ (same-test (view_at c h x.entry.at) v f.view)
        (of-place c (fetched_at c h x.entry.at) x.entry.pc g f.next (sym f.group ∙ x.group)) in
        let no : true ≡ false = sym (fetched-earlier c h v g t x.entry.at l fetch) ∙ fresh in absurd (cc) in
        let same : x.entry.at ≡ t = exact x.entry.at t x.early not_before in
        subst (λ y. Among y (steps_of log)) same (among-steps x.entry log x.among)
      where
        exact : (a b : ℕ) → a ≤ b → (a < b → ⊥) → a ≡ b
        exact a b l n = omega (arith, l, n)

    made : IsUnder c h v t → Among t (steps_of log)
    made u =
        let k : IsMissing c h t = miss-parts c h t u.miss in
        let missing : is_base c v (group_at (image_groups c) k.place) ≡ false = subst (λ w. is_base c w (group_at (image_groups c) k.place) ≡ false) u.view k.missing in
        let fresh : was_fetched c h v (group_at (image_groups c) k.place) t ≡ false = subst (λ w. was_fetched c h w (group_at (image_groups c) k.place) t ≡ false) u.view k.fresh in
        found (group_at (image_groups c) k.place) fresh
        (logged-by log t (group_at (image_groups c) k.place) (logged-then t k.place (group_at (image_groups c) k.place) u.within k.next u.view refl missing))

  pub log-is-misses : steps_of log ≡ misses_under c h v
  log-is-misses =
      same-members (steps_of log) (misses_under c h v) (steps-ascend c h log ordered just steps once) (under-ascends c h v)
      (λ t m. let k : IsEntryAt log t = steps-among t log m in subst (λ x. Among x (misses_under c h v)) (sym k.at) (entry-under k.entry k.among))
      (λ t m. under-entry t m)
