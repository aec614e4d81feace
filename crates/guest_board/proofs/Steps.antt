-- What a step counts, and when it is made.
use Rattle.std.proofs.Common.{◌≡◌, ◌≢◌, ℕ, ◌+◌, ◌<◌, ◌≤◌, Bool, true, false, refl, ap, ◌∙◌, arith, Option, Some, None}
use Rattle.std.specs.Prelude.{if◌then◌else◌}
use Rattle.std.proofs.lemmas.Bool.Decides.{nat_tests}
use Rattle.guest_ram.specs.Ram.{Ram, is_text}
use Rattle.rv_step.specs.Site.{Site}
use Rattle.guest_board.specs.declared.rules.Rules.{Rules}
use Rattle.guest_board.specs.declared.slot.Slot.{Slot}
use Rattle.guest_board.specs.declared.step.Nesting.{Nesting}
use Rattle.guest_board.specs.declared.step.Nesting.TheVariants.{Stays, Interrupts, Traps, Returns}
use Rattle.guest_board.specs.declared.step.StepStart.{StepStart}
use Rattle.guest_board.specs.declared.step.StepStart.TheVariants.{Interrupt, Fetches}
use Rattle.guest_board.specs.declared.seen.Windows.{Windows}
use Rattle.guest_board.specs.declared.seen.Verdict.{Verdict}
use Rattle.guest_board.specs.declared.seen.Verdict.TheVariants.{Idle, Goes}
use Rattle.guest_board.specs.Made.{Made}
use Rattle.guest_board.specs.Step.{due_at, made_by, place_of, start_by, step_start}
use Rattle.guest_board.specs.Board.{State, after_made, deeper, depth_after, is_hook, is_same_place, made_of, may, next_start, site_of, slot_after, slot_of, step_of}
use Rattle.guest_board.specs.Laws.{ClockCountsSteps, FullStepsBegin, NamesStay, NumberOfVcpusStays, StepsCountOne}
use Rattle.guest_board.specs.Seen.{verdict_of, by_start}
use Rattle.guest_board.specs.SeenFacts.{IsPlacedIn}
use Rattle.guest_board.proofs.Places.{HalvesAre, fetched-halves, text_place-is}
use Rattle.guest_board.proofs.Slots.{slots-length, slots-own}

pub full_steps_begin : FullStepsBegin
unfolding step_of
full_steps_begin rules s i = refl

pub number_stays : NumberOfVcpusStays
unfolding after_made
number_stays rules s i start = slots-length rules s i start (made_by start s.clock (site_of s i))

slot-made : (rules : Rules) (s : Site) (slot : Slot) (start : StepStart) (m : Made) → (slot_after rules s slot start m).made ≡ slot.made + 1
unfolding slot_after
slot-made rules s slot start m = refl

pub counts_one : StepsCountOne
unfolding after_made
counts_one rules s i start inside =
    let m : Made = made_by start s.clock (site_of s i) in
    ap (λ (slot : Slot). slot.made) (slots-own rules s i start m inside) ∙ slot-made rules (site_of s i) (slot_of s i) start m

slot-name : (rules : Rules) (s : Site) (slot : Slot) (start : StepStart) (m : Made) → is_same_place (place_of start) rules.hook ≡ false → (slot_after rules s slot start m).name ≡ slot.name
unfolding slot_after
slot-name rules s slot start m away = rw away refl

pub names_stay : NamesStay
unfolding after_made
names_stay rules s i start inside away =
    let m : Made = made_by start s.clock (site_of s i) in
    ap (λ (slot : Slot). slot.name) (slots-own rules s i start m inside) ∙ slot-name rules (site_of s i) (slot_of s i) start m away

pub clock_counts : ClockCountsSteps
unfolding after_made
clock_counts rules s i start = refl

pub may-made : (rules : Rules) (s : State) (i : ℕ) → may rules s i ≡ true → made_of s i < rules.steps
may-made rules s i m = grind (arith, nat_tests)

-- what a step begins with has the halfwords of the memory
abbrev StartIs : Ram → StepStart → Type 0
StartIs ram (Interrupt code) = Unit {0}
StartIs ram (Fetches got) = HalvesAre ram got

start_by-is : (s : Site) (o : Option ℕ) → StartIs s.ram (start_by o s)
start_by-is s None = fetched-halves s.vcpu s.ram
start_by-is s (Some code) = tt

step_start-is : (s : Site) (clock : ℕ) → StartIs s.ram (step_start s clock)
unfolding step_start
step_start-is s clock = start_by-is s (due_at s clock)

place_of-is : (ram : Ram) (start : StepStart) (p : ℕ) → StartIs ram start → place_of start ≡ Some p → is_text ram p ≡ true
place_of-is ram (Interrupt code) p k e = absurd (cc)
place_of-is ram (Fetches got) p k e = text_place-is ram got p k e

placed-by : (ram : Ram) (start : StepStart) (o : Option ℕ) → StartIs ram start → place_of start ≡ o → IsPlacedIn ram.text o
placed-by ram start None k e = tt
placed-by ram start (Some p) k e = place_of-is ram start p k e

-- the place that a step fetches lies in text
pub start_placed : (s : State) (i : ℕ) → IsPlacedIn s.ram.text (place_of (next_start s i))
start_placed s i = placed-by s.ram (next_start s i) (place_of (next_start s i)) (step_start-is (site_of s i) s.clock) refl

busy : (rules : Rules) (s : State) (i : ℕ) (w : Windows) (v : Verdict) → v ≡ verdict_of rules s i w → v ≢ Idle → may rules s i ≡ true
unfolding verdict_of
busy rules s i w v e b =
    elim (may rules s i) as (λ m. v ≡ (if m then by_start s.ram.text w (next_start s i) else Idle) → m ≡ true) [
      | true ↦ λ h. refl
      | false ↦ λ h. absurd (b h)
    ] e

-- a vCPU that goes on may step
pub goes_may : (rules : Rules) (s : State) (i : ℕ) (start : StepStart) (w : Windows) → Goes start ≡ verdict_of rules s i w → may rules s i ≡ true
goes_may rules s i start w e = busy rules s i w (Goes start) e (λ h. absurd (cc))

deeper-most : (nesting : Nesting) (d n : ℕ) → d ≤ n → deeper nesting d ≤ n + 1
deeper-most Stays d n h = omega (arith, h)
deeper-most Interrupts d n h = omega (arith, h)
deeper-most Traps d n h = grind (arith, nat_tests, h)
deeper-most Returns d n h = omega (arith, h)

depth-most : (hook : Bool) (nesting : Nesting) (d n : ℕ) → d ≤ n → depth_after hook nesting d ≤ n + 1
depth-most true nesting d n h = omega arith
depth-most false nesting d n h = deeper-most nesting d n h

-- a step adds 1 to the depth at most
pub slot-depth : (rules : Rules) (s : Site) (slot : Slot) (start : StepStart) (m : Made) (n : ℕ) → slot.depth ≤ n → (slot_after rules s slot start m).depth ≤ n + 1
unfolding slot_after
slot-depth rules s slot start m n h = depth-most (is_hook rules start m.left) m.left.nesting slot.depth n h
