-- There is one round-robin schedule.
use Rattle.std.proofs.Common.{◌≡◌, ℕ, zero, suc, ◌<◌, ◌≤◌, ◌⊎◌, true, cond, ltb, List, [], ◌∷◌, ◌++◌, length, get_or, take, Some, refl, ap, sym, ◌∙◌, subst, arith, inl, inr, add-one, ◌||◌, ◌&&◌}
use Rattle.std.specs.Prelude.{is_none, slice_index}
use Rattle.std.proofs.lemmas.Bool.{both_ways, and_from, and_parts, cases_order, cases_lt, lt-ltb, le-ltb, or_left, or_right, false≢true}
use Rattle.std.proofs.lemmas.List.{get_or-take, take_all, take_more}
use Rattle.fc_numbers.specs.declared.machine.End.{End}
use Rattle.guest_board.specs.declared.rules.Rules.{Rules}
use Rattle.guest_board.specs.Board.{State, made_of, may}
use Rattle.run_evidence.specs.Config.{Config, full, full_at, rules_in}
use Rattle.profiler.specs.RoundRobin.{IsNextInTurn, IsRoundRobin, TakesTurns, is_passed, vcpu_before}

-- of two vCPUs, going round from the last one, one is passed on the way to the other
passed-low : (last i j : ℕ) → last < i → (j < i → last < j → is_passed last i j ≡ true)
passed-low last i j above = λ less more.
    let test = lt-ltb last i above in
    ap (λ t. cond t (ltb last j && ltb j i) (ltb last j || ltb j i)) test ∙ and_from (ltb last j) (ltb j i) (lt-ltb last j more) (lt-ltb j i less)

passed-round : (last i j : ℕ) → i ≤ last → (last < j) ⊎ (j < i) → is_passed last i j ≡ true
passed-round last i j low one =
    let test = le-ltb last i low in
    let either : (ltb last j || ltb j i) ≡ true = elim one [ inl h ↦ or_left (ltb last j) (ltb j i) (lt-ltb last j h) | inr h ↦ or_right (ltb last j) (ltb j i) (lt-ltb j i h) ] in
    ap (λ t. cond t (ltb last j && ltb j i) (ltb last j || ltb j i)) test ∙ either

one-passed : (last i j : ℕ) → i < j → (is_passed last j i ≡ true) ⊎ (is_passed last i j ≡ true)
one-passed last i j less =
    elim (cases_lt last i) [
      | inl above ↦ inl (passed-low last j i (omega (arith, above, less)) less above)
      | inr low ↦
          elim (cases_lt last j) [
            | inl above ↦ inr (passed-round last i j low (inl above))
            | inr under ↦ inl (passed-round last j i under (inr less))
          ]
    ]

apart : (rules : Rules) (s : State) (last i j : ℕ) → IsNextInTurn rules s last i → IsNextInTurn rules s last j → i < j → ⊥
apart rules s last i j a b less =
    elim (one-passed last i j less) [
      | inl p ↦ both_ways (may rules s i) (b.passed i p) a.may_step
      | inr p ↦ both_ways (may rules s j) (a.passed j p) b.may_step
    ]

next-is-one : (rules : Rules) (s : State) (last i j : ℕ) → IsNextInTurn rules s last i → IsNextInTurn rules s last j → i ≡ j
next-is-one rules s last i j a b =
    elim (cases_order i j) [
      | inl same ↦ same
      | inr other ↦ elim other [ inl less ↦ absurd (apart rules s last i j a b less) | inr more ↦ absurd (apart rules s last j i b a more) ]
    ]

before-same : (c : Config) (h k : List ℕ) (t : ℕ) → take t h ≡ take t k → vcpu_before c h t ≡ vcpu_before c k t
before-same c h k zero same = refl
before-same c h k (suc t) same =
    let within : t < suc t = omega arith in
    sym (get_or-take (suc t) h t 0 within) ∙ ap (λ xs. get_or xs t 0) same ∙ get_or-take (suc t) k t 0 within

-- two schedules that take turns go on together
fronts-same : (c : Config) (h k : List ℕ) (t : ℕ) → TakesTurns c h → TakesTurns c k → t ≤ length h → t ≤ length k → take t h ≡ take t k
fronts-same c h k zero a b one two = refl
fronts-same c h k (suc t) a b one two =
    let same = fronts-same c h k t a b (omega (arith, one)) (omega (arith, two)) in
    let left = a t (omega (arith, one)) in
    let right = b t (omega (arith, two)) in
    let state : full_at c k t ≡ full_at c h t = ap (full c) (sym same) in
    let moved : IsNextInTurn (rules_in c) (full_at c h t) (vcpu_before c h t) (slice_index k t) =
    subst (λ l. IsNextInTurn (rules_in c) (full_at c h t) l (slice_index k t)) (sym (before-same c h k t same))
    (subst (λ s. IsNextInTurn (rules_in c) s (vcpu_before c k t) (slice_index k t)) state right) in
    let vcpu = next-is-one (rules_in c) (full_at c h t) (vcpu_before c h t) (slice_index h t) (slice_index k t) left moved in
    ap (λ n. take n h) (sym (add-one t)) ∙ take_more h t 0 (omega (arith, one))
    ∙ ap (λ xs. xs ++ slice_index h t ∷ []) same ∙ ap (λ v. take t k ++ v ∷ []) vcpu
    ∙ sym (take_more k t 0 (omega (arith, two))) ∙ ap (λ n. take n k) (add-one t)

-- where the run has ended no vCPU may step
over : (rules : Rules) (s : State) (i : ℕ) (end : End) → s.end ≡ Some end → may rules s i ≡ true → ⊥
over rules s i end e may_step =
    let parts = and_parts (ltb i (length s.slots) && is_none s.end) (ltb (made_of s i) rules.steps) may_step in
    let running = (and_parts (ltb i (length s.slots)) (is_none s.end) parts.0).1 in
    false≢true (ap is_none (sym e) ∙ running)

longer : (c : Config) (h k : List ℕ) (end : End) → TakesTurns c h → TakesTurns c k → (full c h).end ≡ Some end → length h < length k → ⊥
longer c h k end a b ended less =
    let same = fronts-same c h k (length h) a b (omega arith) (omega (arith, less)) in
    let whole : take (length h) k ≡ h = sym same ∙ take_all (length h) h (omega arith) in
    over (rules_in c) (full_at c k (length h)) (slice_index k (length h)) end (ap (λ xs. (full c xs).end) whole ∙ ended) (b (length h) less).may_step

pub robin-is-one : (c : Config) (h k : List ℕ) (e f : End) → IsRoundRobin c h e → IsRoundRobin c k f → h ≡ k
robin-is-one c h k e f a b =
    let long : length h ≡ length k = elim (cases_order (length h) (length k)) [
      | inl same ↦ same
      | inr other ↦ elim other [ inl less ↦ absurd (longer c h k e a.turns b.turns a.ended less) | inr more ↦ absurd (longer c k h f b.turns a.turns b.ended more) ]
    ] in
    sym (take_all (length h) h (omega arith)) ∙ fronts-same c h k (length h) a.turns b.turns (omega arith) (omega (arith, long)) ∙ take_all (length h) k (omega (arith, long))
