-- Runs under their own profile log nothing; with one vCPU every ended run is such a run.
use Rattle.std.proofs.Common.{◌≡◌, ℕ, zero, suc, ◌<◌, ◌≤◌, true, false, ltb, List, [], ◌∷◌, ◌++◌, length, take, Option, Some, None, refl, ap, sym, ◌∙◌, subst, arith, ◌&&◌}
use Rattle.std.specs.Prelude.{IsSome, is_none, slice_index, slice_index_or}
use Rattle.std.specs.List.{flat_map, range_with_len}
use Rattle.std.proofs.lemmas.Bool.{and_left, and_parts, false≢true, le-ltb, ltb-true}
use Rattle.std.proofs.lemmas.List.{length-map}
use Rattle.std.proofs.lemmas.List.FromFn.{length-range_with_len}
use Rattle.fc_numbers.specs.declared.machine.End.{End}
use Rattle.view_store.specs.Paged.{PagedView}
use Rattle.guest_board.specs.declared.rules.Rules.{Rules}
use Rattle.guest_board.specs.Board.{State, made_of, may, next_start, run_from, step_of}
use Rattle.guest_board.specs.First.{first_slot, first_slots, first_state}
use Rattle.guest_board.specs.Laws.{NumberOfVcpusStays}
use Rattle.run_evidence.specs.Config.{Config, IsConfig, IsLawfulSchedule, full, full_at, rules_in}
use Rattle.profiler.specs.RoundRobin.{IsNextInTurn, IsRoundRobin, TakesTurns, is_passed, vcpu_before}
use Rattle.profiler.specs.Profile.{IsProfile, unviewed}
use Rattle.vcpu_core.specs.First.{first_world}
use Rattle.vcpu_core.specs.World.{blank_paged, erased, go_all}
use Rattle.vcpu_core.specs.Sound.{IsSound}
use Rattle.vcpu_core.specs.Undisturbed.{CoveredLogsNothing, OneVcpuIsUndisturbed}
use Rattle.guest_runs.specs.Engine.{events_of_script}
use Rattle.guest_runs.specs.Log.{JustifiedEntriesArePrintable}
use Rattle.profile_laws.specs.Profiled.{OneVcpuLogsNothing, OneVcpuTracesNothing, RoundRobinLogsNothing}
use Rattle.profile_laws.proofs.Covered.{covered}
use Rattle.profile_laws.proofs.Robin.{robin-is-one}

-- what any list of events comes to
abbrev pub EveryOrderIsSound : Type 0
EveryOrderIsSound = (c : Config) → IsConfig c → (is : List ℕ) → IsSound c (go_all (first_world c) is) (erased (first_world c) is)

-- whose turn it is hangs on no views
before-view : (c : Config) (k : List ℕ) (t : ℕ) → vcpu_before (unviewed c.image c.setup) k t ≡ vcpu_before c k t
before-view c k zero = refl
before-view c k (suc t) = refl

turns-view : (c : Config) (k : List ℕ) → TakesTurns (unviewed c.image c.setup) k → TakesTurns c k
turns-view c k turns = λ t within.
    subst (λ l. IsNextInTurn (rules_in c) (full_at c k t) l (slice_index k t)) (before-view c k t) (turns t within)

pub robin-logs : CoveredLogsNothing → EveryOrderIsSound → JustifiedEntriesArePrintable → RoundRobinLogsNothing
robin-logs nothing sound printable = λ c ok own is end still robin.
    let h = erased (first_world c) is in
    let p = own.1 in
    let other : IsRoundRobin c p.schedule own.0 = record { turns = turns-view c p.schedule p.robin.turns; ended = p.robin.ended } in
    let same : p.schedule ≡ h = robin-is-one c p.schedule h own.0 end other robin in
    let profile = subst (λ k. IsProfile (unviewed c.image c.setup) k c.views) same p.profile in
    nothing c ok is still (covered c h printable ok (sound c ok is).lawful profile)

-- the number of vCPUs stays
slots-stay : NumberOfVcpusStays → (rules : Rules) (s : State) (h : List ℕ) → length (run_from rules s h).slots ≡ length s.slots
unfolding step_of
slots-stay stays rules s [] = refl
slots-stay stays rules s (i ∷ h) = slots-stay stays rules (step_of rules s i) h ∙ stays rules s i (next_start s i)

slots-first : (c : Config) → length (first_state c.image c.setup).slots ≡ c.setup.vcpus
unfolding first_state first_slots
slots-first c = length-map (range_with_len 0 c.setup.vcpus) (first_slot c.image.entry c.setup.start) ∙ length-range_with_len 0 c.setup.vcpus

slots-at : NumberOfVcpusStays → (c : Config) (h : List ℕ) (t : ℕ) → length (full_at c h t).slots ≡ c.setup.vcpus
slots-at stays c h t = slots-stay stays (rules_in c) (first_state c.image c.setup) (take t h) ∙ slots-first c

may-within : (rules : Rules) (s : State) (i : ℕ) → may rules s i ≡ true → i < length s.slots
may-within rules s i m =
    let parts = and_parts (ltb i (length s.slots) && is_none s.end) (ltb (made_of s i) rules.steps) m in
    ltb-true i (length s.slots) (and_parts (ltb i (length s.slots)) (is_none s.end) parts.0).0

beyond-may : (rules : Rules) (s : State) (i : ℕ) → length s.slots ≤ i → may rules s i ≡ false
beyond-may rules s i beyond =
    and_left (ltb i (length s.slots) && is_none s.end) (ltb (made_of s i) rules.steps) (and_left (ltb i (length s.slots)) (is_none s.end) (le-ltb i (length s.slots) beyond))

passed-some : (k : ℕ) → is_passed 0 0 k ≡ true → 1 ≤ k
passed-some zero p = absurd (false≢true p)
passed-some (suc k) p = omega arith

-- with one vCPU each step is one of vCPU 0
only : NumberOfVcpusStays → (c : Config) (h : List ℕ) (t : ℕ) → c.setup.vcpus ≡ 1 → IsLawfulSchedule c h → t < length h → slice_index h t ≡ 0
only stays c h t one lawful within =
    let below = may-within (rules_in c) (full_at c h t) (slice_index h t) (lawful t within) in
    omega (arith, below, slots-at stays c h t, one)

before-only : NumberOfVcpusStays → (c : Config) (h : List ℕ) (t : ℕ) → c.setup.vcpus ≡ 1 → IsLawfulSchedule c h → t < length h → vcpu_before c h t ≡ 0
before-only stays c h zero one lawful within = omega (arith, one)
before-only stays c h (suc t) one lawful within = only stays c h t one lawful (omega (arith, within))

one-turns : NumberOfVcpusStays → (c : Config) (h : List ℕ) → c.setup.vcpus ≡ 1 → IsLawfulSchedule c h → TakesTurns c h
one-turns stays c h one lawful = λ t within.
    let last = before-only stays c h t one lawful within in
    let vcpu = only stays c h t one lawful within in
    record {
      may_step = lawful t within;
      passed = λ k p.
          let here : is_passed 0 0 k ≡ true = ap (λ l. is_passed l 0 k) (sym last) ∙ ap (λ i. is_passed (vcpu_before c h t) i k) (sym vcpu) ∙ p in
          beyond-may (rules_in c) (full_at c h t) k (omega (arith, passed-some k here, slots-at stays c h t, one));
    }

some-end : (o : Option End) → IsSome o → (e : End) × (o ≡ Some e)
some-end None s = absurd (cc)
some-end (Some e) s = (e, refl)

pub one-logs : CoveredLogsNothing → EveryOrderIsSound → JustifiedEntriesArePrintable → OneVcpuIsUndisturbed → NumberOfVcpusStays → OneVcpuLogsNothing
one-logs nothing sound printable calm stays = λ c ok own one is ended.
    let h = erased (first_world c) is in
    let run = sound c ok is in
    let end = some-end (go_all (first_world c) is).board.state.end ended in
    let robin : IsRoundRobin c h end.0 = record { turns = one-turns stays c h one run.lawful; ended = ap (λ (s : State). s.end) (sym run.state) ∙ end.1 } in
    robin-logs nothing sound printable c ok own is end.0 (calm c ok one is ended) robin

no-entries : (ps : List PagedView) → ((v : ℕ) → v < length ps → (slice_index_or ps v blank_paged).log ≡ []) → flat_map (λ p. p.log) ps ≡ []
no-entries [] none = refl
no-entries (p ∷ ps) none =
    ap (λ xs. xs ++ flat_map (λ p. p.log) ps) (none 0 (omega arith)) ∙ no-entries ps (λ v within. none (suc v) (omega (arith, within)))

pub one-traces : EveryOrderIsSound → OneVcpuLogsNothing → OneVcpuTracesNothing
one-traces sound logs = λ c ok own one script console t driven.
    let is = events_of_script script c.setup.vcpus driven.rounds in
    let w = go_all (first_world c) is in
    let run = sound c ok is in
    let end : w.board.state.end ≡ Some t.end = ap (λ (s : State). s.end) run.state ∙ ap (λ k. (full c k).end) (sym driven.schedule) ∙ driven.sound.told.ended in
    let ended : IsSome w.board.state.end = subst (λ (o : Option End). IsSome o) (sym end) refl in
    driven.entries ∙ no-entries w.paged_views (logs c ok own one is ended)
