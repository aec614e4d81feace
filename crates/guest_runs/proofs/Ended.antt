-- Where no vCPU may step, a run has ended.
use Rattle.std.proofs.Common.{◌≡◌, ◌≢◌, ℕ, ◌<◌, ◌≤◌, true, false, arith, refl, ◌∙◌, sym, subst, Option, Some, None, List, [], ◌∷◌, length}
use Rattle.std.specs.Prelude.{Bool, IsSome, nat_eq, nat_lt, not, ◌&&◌, if◌then◌else◌}
use Rattle.std.proofs.lemmas.Bool.Decides.{nat_tests}
use Rattle.std.proofs.lemmas.List.FromFn.{get_or-map-range_with_len, length-map-range_with_len}
use Rattle.fc_numbers.specs.declared.machine.End.{End}
use Rattle.fc_numbers.specs.declared.places.Span.{Span}
use Rattle.fc_numbers.specs.declared.window.Window.{Window}
use Rattle.guest_board.specs.declared.rules.Rules.{Rules}
use Rattle.guest_board.specs.declared.fetch.Fetched.{Fetched}
use Rattle.guest_board.specs.declared.step.StepStart.{StepStart}
use Rattle.guest_board.specs.declared.step.StepStart.TheVariants.{Interrupt, Fetches}
use Rattle.guest_board.specs.declared.seen.Windows.{Windows}
use Rattle.guest_board.specs.declared.seen.Verdict.{Verdict}
use Rattle.guest_board.specs.declared.seen.Verdict.TheVariants.{Idle, Needs, Zeroes, Goes}
use Rattle.guest_board.specs.declared.slot.Slot.{Slot}
use Rattle.guest_board.specs.Board.{State, may, made_of, no_slot, run_from, slot_of, step_of, next_start}
use Rattle.guest_board.specs.Fetch.{text_place, with_halves}
use Rattle.guest_board.specs.First.{first_state, first_slot, first_slots}
use Rattle.guest_board.specs.Laws.{IdleRunsHaveEnded, NumberOfVcpusStays}
use Rattle.guest_board.specs.Seen.{by_start, by_place, by_window, by_halves, line_no, window_at, verdict_of, after_verdict, is_cleared}
use Rattle.run_evidence.specs.Config.{Config, IsConfig, full, rules_in}
use Rattle.vcpu_core.specs.First.{first_world}
use Rattle.vcpu_core.specs.Lanes.{went_by}
use Rattle.vcpu_core.specs.Missed.{HasEnded}
use Rattle.vcpu_core.specs.Sound.{IsSound}
use Rattle.vcpu_core.specs.World.{World, go_all, go_of, went_of, gone, went_in, lane_of, erased, windows_of, verdict_in}
use Rattle.vcpu_core.specs.declared.lane.Lane.{Lane}
use Rattle.vcpu_core.specs.declared.lane.Phase.{Phase}
use Rattle.vcpu_core.specs.declared.lane.Phase.TheVariants.{Running, Wants, Trapped, Looked}
use Rattle.vcpu_core.specs.declared.lane.Went.TheVariants.{Over}
use Rattle.guest_runs.specs.Engine.{IsIdle}

-- what is true after any list of events
abbrev pub EveryOrderIsSound : Type 0
EveryOrderIsSound = (c : Config) → IsConfig c → (is : List ℕ) → IsSound c (go_all (first_world c) is) (erased (first_world c) is)

halves-go : (cleared : Option Span) (got : Fetched) (place first second : ℕ) → went_by (by_halves cleared got place first second) ≢ Over
halves-go cleared got place first second e = zero-or-not (nat_eq first 0 && not (is_cleared cleared place)) e
  where
    zero-or-not : (b : Bool) → went_by (if b then Zeroes place else Goes (Fetches (with_halves got first second))) ≢ Over
    zero-or-not true e = absurd (cc e)
    zero-or-not false e = absurd (cc e)

window-goes : (text : List Span) (cleared : Option Span) (got : Fetched) (place : ℕ) (o : Option Window) → went_by (by_window text cleared got place o) ≢ Over
window-goes text cleared got place None e = absurd (cc e)
window-goes text cleared got place (Some w) e = halves-go cleared got place _ _ e

place-goes : (text : List Span) (w : Windows) (got : Fetched) (o : Option ℕ) → went_by (by_place text w got o) ≢ Over
place-goes text w got None e = absurd (cc e)
place-goes text w got (Some place) e = window-goes text w.cleared got place (window_at (line_no text place) w.held.items) e

start-goes : (text : List Span) (w : Windows) (start : StepStart) → went_by (by_start text w start) ≢ Over
start-goes text w (Interrupt code) e = absurd (cc e)
start-goes text w (Fetches got) e = place-goes text w got (text_place got) e

phase-goes : (w : World) (i : ℕ) (l : Lane) (p : Phase) → may w.board.rules w.board.state i ≡ true → went_in w i l p ≢ Over
unfolding went_in verdict_of
phase-goes w i l Running is e = start-goes w.board.state.ram.text (windows_of w i l) (next_start w.board.state i) (rw is at e)
phase-goes w i l (Wants n) is e = absurd (cc e)
phase-goes w i l (Trapped t) is e = absurd (cc e)
phase-goes w i l (Looked k) is e = absurd (cc e)

over-may : (w : World) (i : ℕ) → went_of w i ≡ Over → may w.board.rules w.board.state i ≡ false
unfolding went_of
over-may w i e = elim (may w.board.rules w.board.state i) as (λ b. may w.board.rules w.board.state i ≡ b → (if b then went_in w i (lane_of w i) (lane_of w i).phase else Over) ≡ Over → b ≡ false) [
  | true ↦ λ is o. absurd (phase-goes w i (lane_of w i) (lane_of w i).phase is o)
  | false ↦ λ is o. refl
] refl e

verdict-rules : (w : World) (i : ℕ) (v : Verdict) → (after_verdict w.board i v).rules ≡ w.board.rules
unfolding after_verdict
verdict-rules w i Idle = refl
verdict-rules w i (Needs n) = refl
verdict-rules w i (Zeroes place) = refl
verdict-rules w i (Goes start) = refl

phase-rules : (w : World) (i : ℕ) (l : Lane) (p : Phase) → (gone w i l p).board.rules ≡ w.board.rules
unfolding gone
phase-rules w i l Running = verdict-rules w i (verdict_in w i (windows_of w i l))
phase-rules w i l (Wants n) = refl
phase-rules w i l (Trapped t) = refl
phase-rules w i l (Looked k) = refl

go-rules : (w : World) (i : ℕ) → (go_of w i).board.rules ≡ w.board.rules
unfolding go_of
go-rules w i = elim (may w.board.rules w.board.state i) as (λ b. (if b then gone w i (lane_of w i) (lane_of w i).phase else w).board.rules ≡ w.board.rules) [
  | true ↦ phase-rules w i (lane_of w i) (lane_of w i).phase
  | false ↦ refl
]

all-rules : (w : World) (is : List ℕ) → (go_all w is).board.rules ≡ w.board.rules
all-rules w [] = refl
all-rules w (i ∷ is) = all-rules (go_of w i) is ∙ go-rules w i

first-rules : (c : Config) → (first_world c).board.rules ≡ rules_in c
unfolding first_world
first-rules c = refl

run-slots : NumberOfVcpusStays → (rules : Rules) (s : State) (schedule : List ℕ) → length (run_from rules s schedule).slots ≡ length s.slots
unfolding step_of
run-slots stays rules s [] = refl
run-slots stays rules s (i ∷ is) = run-slots stays rules (step_of rules s i) is ∙ stays rules s i _

full-slots : NumberOfVcpusStays → (c : Config) (schedule : List ℕ) → length (full c schedule).slots ≡ c.setup.vcpus
unfolding first_state first_slots
full-slots stays c schedule = run-slots stays (rules_in c) (first_state c.image c.setup) schedule ∙ length-map-range_with_len _ 0 c.setup.vcpus

first-may : (c : Config) → IsConfig c → may (rules_in c) (full c []) 0 ≡ true
unfolding first_state first_slots
first-may c ok =
    let some : 0 < c.setup.vcpus = omega (arith, ok.setup.setup.some) in
    let count : length (first_state c.image c.setup).slots ≡ c.setup.vcpus = length-map-range_with_len (first_slot c.image.entry c.setup.start) 0 c.setup.vcpus in
    let slot : slot_of (first_state c.image c.setup) 0 ≡ first_slot c.image.entry c.setup.start 0
    = get_or-map-range_with_len (first_slot c.image.entry c.setup.start) 0 c.setup.vcpus 0 0 no_slot some refl in
    let there : nat_lt 0 (length (first_state c.image c.setup).slots) ≡ true = grind (arith, nat_tests, count, some) in
    let left : nat_lt 0 c.setup.steps ≡ true = grind (arith, nat_tests, ok.setup.setup.steps_some) in
    let made : nat_lt (made_of (first_state c.image c.setup) 0) c.setup.steps ≡ true = subst (λ (x : Slot). nat_lt x.made c.setup.steps ≡ true) (sym slot) left in
    rw (there, made) refl

-- nobody may step after these steps
abbrev AllIdle : Config → List ℕ → Type 0
AllIdle c schedule = (k : ℕ) → may (rules_in c) (full c schedule) k ≡ false

last-ended : IdleRunsHaveEnded → (rules : Rules) (s : State) (i : ℕ) (is : List ℕ) → ((k : ℕ) → may rules (run_from rules s (i ∷ is)) k ≡ false) → (run_from rules s (i ∷ is)).end ≢ None
unfolding step_of
last-ended law rules s i [] idle = law rules s i (next_start s i) idle
last-ended law rules s i (j ∷ js) idle = last-ended law rules (step_of rules s i) j js idle

some-end : (e : Option End) → e ≢ None → IsSome e
some-end None not = absurd (not refl)
some-end (Some e) not = refl

schedule-ended : IdleRunsHaveEnded → (c : Config) → IsConfig c → (schedule : List ℕ) → AllIdle c schedule → IsSome (full c schedule).end
schedule-ended law c ok [] idle = absurd (cc (sym (first-may c ok) ∙ idle 0))
schedule-ended law c ok (i ∷ is) idle = some-end (full c (i ∷ is)).end (last-ended law (rules_in c) (first_state c.image c.setup) i is idle)

beyond-may : (rules : Rules) (s : State) (k : ℕ) → length s.slots ≤ k → may rules s k ≡ false
beyond-may rules s k high = let no : nat_lt k (length s.slots) ≡ false = grind (arith, nat_tests, high) in rw no refl

-- where no vCPU may step, the run has ended
pub idle-ended : EveryOrderIsSound → IdleRunsHaveEnded → NumberOfVcpusStays → (c : Config) → IsConfig c → (is : List ℕ) → IsIdle c.setup.vcpus (go_all (first_world c) is)
    → HasEnded (go_all (first_world c) is)
idle-ended sounds law stays c ok is idle =
    let w : World = go_all (first_world c) is in
    let steps : List ℕ = erased (first_world c) is in
    let sound : IsSound c w steps = sounds c ok is in
    let rules : w.board.rules ≡ rules_in c = all-rules (first_world c) is ∙ first-rules c in
    let all : AllIdle c steps = λ k. elim (nat_lt k c.setup.vcpus) as (λ b. nat_lt k c.setup.vcpus ≡ b → may (rules_in c) (full c steps) k ≡ false) [
      | true ↦ λ t.
          let within : k < c.setup.vcpus = grind (arith, nat_tests, t) in
          subst (λ r. may r (full c steps) k ≡ false) rules (subst (λ s. may w.board.rules s k ≡ false) sound.state (over-may w k (idle k within)))
      | false ↦ λ t. beyond-may (rules_in c) (full c steps) k (let high : c.setup.vcpus ≤ k = grind (arith, nat_tests, t) in omega (arith, full-slots stays c steps, high))
    ] refl in
    subst (λ (s : State). IsSome s.end) (sym sound.state) (schedule-ended law c ok steps all)
