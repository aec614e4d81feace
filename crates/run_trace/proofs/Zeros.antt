-- A zero halfword of text that is fetched reaches the guest as an illegal instruction.
use Rattle.std.proofs.Common.{◌≡◌, ℕ, zero, suc, ◌+◌, ◌<◌, ◌≤◌, Bool, true, false, arith, refl, ◌∙◌, sym, ap, subst, Option, Some, None, List, [], ◌∷◌, ◌++◌, length, take, get_or, add-one, get_or-set_same}
use Rattle.std.specs.Prelude.{◌==◌, ◌%◌, if◌then◌else◌, slice_index, slice_set}
use Rattle.fc_numbers.specs.declared.machine.Stop.TheVariants.{TextSplit}
use Rattle.guest_ram.specs.Ram.{Ram}
use Rattle.rv_decode.specs.Rows.{decode16_of, compressed_rows}
use Rattle.rv_decode.specs.declared.Inst.{Inst}
use Rattle.rv_step.specs.declared.vcpu.Vcpu.{Vcpu}
use Rattle.rv_step.specs.declared.causes.TheConstants.{ILLEGAL_INSTRUCTION}
use Rattle.rv_step.specs.Site.{Site}
use Rattle.guest_board.specs.declared.rules.Rules.{Rules}
use Rattle.guest_board.specs.declared.slot.Slot.{Slot}
use Rattle.guest_board.specs.declared.fetch.Fetched.{Fetched}
use Rattle.guest_board.specs.declared.fetch.Fetched.TheVariants.{Short, Long, Faults, Stops}
use Rattle.guest_board.specs.declared.fetch.HalfPlace.{HalfPlace}
use Rattle.guest_board.specs.declared.fetch.HalfPlace.TheVariants as half
use Rattle.guest_board.specs.declared.step.StepStart.{StepStart}
use Rattle.guest_board.specs.declared.step.StepStart.TheVariants.{Interrupt, Fetches}
use Rattle.guest_board.specs.declared.step.Nesting.TheVariants.{Traps}
use Rattle.guest_board.specs.Made.{Made, in_trap, trapped}
use Rattle.guest_board.specs.Step.{by_inst, made_by, start_by, step_start, due_at, place_of}
use Rattle.guest_board.specs.Fetch.{fetched, half_at, half_place, is_split, second_place, text_place, with_first, with_second, place_if}
use Rattle.guest_board.specs.Board.{State, may, next_of, next_start, no_slot, site_of, slot_of, slot_after, after_made, stepped_by, step_of, vcpu_of, run_from}
use Rattle.run_evidence.specs.Config.{Config, IsLawfulSchedule, full, full_at, fetched_at, rules_in}
use Rattle.run_trace.specs.Sound.{ZerosReachTheGuest}
use Rattle.run_trace.proofs.Traced.{may-within}

no-row : decode16_of 0 ≡ None
unfolding decode16_of compressed_rows
no-row = refl

-- what is fetched of a zero halfword of text is that halfword alone
second-none : (ram : Ram) (text : Bool) (q : ℕ) (second : HalfPlace) (p : ℕ) → text_place (with_second ram text q second) ≡ Some p → (text ≡ true) × (q ≡ p)
second-none ram text q (half.Faults cause tval) p e = absurd (cc e)
second-none ram text q (half.Stops stop) p e = absurd (cc e)
second-none ram text q (half.In text2 r) p e =
    elim (is_split text q text2 r) as (λ b. text_place (if b then Stops TextSplit else Long text q (half_at ram q) (half_at ram r)) ≡ Some p → (text ≡ true) × (q ≡ p)) [
      | true ↦ λ h. absurd (cc h)
      | false ↦ λ h. placed text q p h
    ] e
  where
    placed : (text : Bool) (q p : ℕ) → place_if text q ≡ Some p → (text ≡ true) × (q ≡ p)
    placed true q p e = (refl, cc e)
    placed false q p e = absurd (cc e)

short-only : (v : Vcpu) (ram : Ram) (hp : HalfPlace) (p : ℕ) → text_place (with_first v ram hp) ≡ Some p → half_at ram p ≡ 0 → with_first v ram hp ≡ Short true p 0
short-only v ram (half.Faults cause tval) p e none = absurd (cc e)
short-only v ram (half.Stops stop) p e none = absurd (cc e)
short-only v ram (half.In text q) p e none =
    elim (half_at ram q % 4 == 3) as (λ b. (half_at ram q % 4 == 3) ≡ b → text_place (if b then with_second ram text q (second_place v ram) else Short text q (half_at ram q)) ≡ Some p
    → (if b then with_second ram text q (second_place v ram) else Short text q (half_at ram q)) ≡ Short true p 0) [
      | true ↦ λ is h.
          let both = second-none ram text q (second_place v ram) p h in
          let zero-half : half_at ram q ≡ 0 = subst (λ x. half_at ram x ≡ 0) (sym both.1) none in
          absurd (cc (sym is ∙ ap (λ n. n % 4 == 3) zero-half))
      | false ↦ λ is h. short text q h
    ] refl e
  where
    short : (text : Bool) (q : ℕ) → place_if text q ≡ Some p → Short text q (half_at ram q) ≡ Short true p 0
    short true q h = let same : q ≡ p = cc h in ap (λ x. Short true x (half_at ram x)) same ∙ ap (Short true p) none
    short false q h = absurd (cc h)

-- what such a step begins with
start-zero : (o : Option ℕ) (s : Site) (p : ℕ) → place_of (start_by o s) ≡ Some p → half_at s.ram p ≡ 0 → start_by o s ≡ Fetches (Short true p 0)
unfolding fetched
start-zero (Some code) s p e none = absurd (cc e)
start-zero None s p e none = ap Fetches (short-only s.vcpu s.ram (half_place s.vcpu s.ram s.vcpu.pc) p e none)

-- and what it makes
made-zero : (start : StepStart) (clock : ℕ) (s : Site) (p : ℕ) → start ≡ Fetches (Short true p 0) → made_by start clock s ≡ trapped s ILLEGAL_INSTRUCTION 0 Traps
unfolding made_by by_inst
made-zero start clock s p e = rw (e, no-row) refl

pub zero-step : (rules : Rules) (s : State) (i p : ℕ) → i < length s.slots → next_of s i ≡ Some p → half_at s.ram p ≡ 0
    → vcpu_of (step_of rules s i) i ≡ in_trap (vcpu_of s i) ILLEGAL_INSTRUCTION 0
unfolding next_of step_of step_start after_made slot_after
zero-step rules s i p within next none =
    let start : next_start s i ≡ Fetches (Short true p 0) = start-zero (due_at (site_of s i) s.clock) (site_of s i) p next none in
    let made : made_by (next_start s i) s.clock (site_of s i) ≡ trapped (site_of s i) ILLEGAL_INSTRUCTION 0 Traps = made-zero (next_start s i) s.clock (site_of s i) p start in
    rw made (ap (λ (x : Slot). x.vcpu) (get_or-set_same s.slots i (slot_after rules (site_of s i) (slot_of s i) (next_start s i) (trapped (site_of s i) ILLEGAL_INSTRUCTION 0 Traps)) no_slot within))

run-more : (rules : Rules) (s : State) (schedule : List ℕ) (t : ℕ) → t < length schedule → run_from rules s (take (t + 1) schedule) ≡ step_of rules (run_from rules s (take t schedule)) (slice_index schedule t)
run-more rules s schedule t within = rw (add-one t) (more rules s schedule t within)
  where
    more : (rules : Rules) (s : State) (schedule : List ℕ) (t : ℕ) → t < length schedule → run_from rules s (take (suc t) schedule) ≡ step_of rules (run_from rules s (take t schedule)) (slice_index schedule t)
    more rules s [] t within = absurd (omega (arith, within))
    more rules s (i ∷ is) zero within = refl
    more rules s (i ∷ is) (suc t) within = more rules (step_of rules s i) is t (omega (arith, within))

pub zeros-reach : ZerosReachTheGuest
zeros-reach c schedule t p lawful within fetches none =
    let i : ℕ = slice_index schedule t in
    let s : State = full_at c schedule t in
    subst (λ x. vcpu_of x i ≡ in_trap (vcpu_of s i) ILLEGAL_INSTRUCTION 0) (sym (run-more (rules_in c) _ schedule t within))
    (zero-step (rules_in c) s i p (may-within (rules_in c) s i (lawful t within)) fetches none)
