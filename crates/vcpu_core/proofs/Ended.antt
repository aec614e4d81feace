-- With one vCPU, a run goes on until it has an end: where an event is none, the run has ended.
use Rattle.std.proofs.Common.{◌≡◌, ℕ, zero, suc, ◌<◌, ◌≤◌, true, false, Bool, List, [], ◌∷◌, length, refl, sym, ap, subst, ◌∙◌, arith, Option, Some, None}
use Rattle.std.specs.Prelude.{◌&&◌, is_none, IsSome, nat_lt}
use Rattle.std.proofs.lemmas.Bool.Decides.{nat_tests}
use Rattle.std.proofs.lemmas.List.FromFn.{get_or-map-range_with_len}
use mathlib.Core.Logic.{dite}
use native.Mathlib.Decide.{dec_lt}
use Rattle.fc_numbers.specs.declared.machine.End.{End}
use Rattle.guest_board.specs.declared.rules.Rules.{Rules}
use Rattle.guest_board.specs.declared.slot.Slot.{Slot}
use Rattle.guest_board.specs.Board.{Seat, State, made_of, may, next_start, no_slot, run_from, step_of, stepped_by}
use Rattle.guest_board.specs.First.{first_slot, first_slots, first_state}
use Rattle.guest_board.proofs.Idle.{idle_runs_have_ended}
use Rattle.run_evidence.specs.Config.{Config, IsConfig, full, rules_in}
use Rattle.run_evidence.proofs.OneVcpu.{full-vcpus}
use Rattle.run_evidence.proofs.Steps.{step-is, stepped-slots}
use Rattle.vcpu_core.specs.declared.lane.Went.TheVariants.{Over}
use Rattle.vcpu_core.specs.First.{first_world}
use Rattle.vcpu_core.specs.World.{go_all, went_of}
use Rattle.vcpu_core.specs.Missed.{HasEnded}
use Rattle.vcpu_core.proofs.Kept.{IsKept}
use Rattle.vcpu_core.proofs.Start.{kept_of_events}
use Rattle.vcpu_core.proofs.Events.{over-may}

-- a vCPU that may not step, of one that there is and that has steps left, is stuck by the end
left-by : (n made steps : ℕ) (going : Bool) → (nat_lt 0 n && going && nat_lt made steps) ≡ false → 0 < n → made < steps → going ≡ false
left-by n made steps true e some left = let z : true ≡ false = grind (arith, nat_tests, e, some, left) in z
left-by n made steps false e some left = refl

none-none : (e : Option End) → is_none e ≡ true → e ≡ None
none-none None n = refl
none-none (Some e) n = absurd (cc)

some-end : (e : Option End) → is_none e ≡ false → IsSome e
some-end None n = absurd (cc)
some-end (Some e) n = refl

idle-zero : (rules : Rules) (s : State) → rules.steps ≤ made_of s 0 → may rules s 0 ≡ false
idle-zero rules s spent = grind (arith, nat_tests, spent)

idle-other : (rules : Rules) (s : State) (k : ℕ) → length s.slots ≤ k → may rules s k ≡ false
idle-other rules s k over = grind (arith, nat_tests, over)

idle-all : (rules : Rules) (s : State) → length s.slots ≡ 1 → rules.steps ≤ made_of s 0 → (k : ℕ) → may rules s k ≡ false
idle-all rules s one spent zero = idle-zero rules s spent
idle-all rules s one spent (suc k) = idle-other rules s (suc k) (omega (arith, one))

-- where the run goes on, the one vCPU has steps left
pub record HasSteps (rules : Rules) (s : State) : Type 0 where
  pub one : length s.slots ≡ 1
  pub left : is_none s.end ≡ true → made_of s 0 < rules.steps

step-steps : (rules : Rules) (s : State) (i : ℕ) → HasSteps rules s → HasSteps rules (step_of rules s i)
step-steps rules s i k =
    let one : length (stepped_by rules s i (next_start s i)).slots ≡ 1 = stepped-slots rules s i (next_start s i) ∙ k.one in
    subst (λ (x : State). HasSteps rules x) (sym (step-is rules s i)) (record {
      one = one;
      left = λ going. dite (dec_lt (made_of (stepped_by rules s i (next_start s i)) 0) rules.steps) (λ less. less)
          (λ more. absurd (idle_runs_have_ended rules s i (next_start s i) (idle-all rules (stepped_by rules s i (next_start s i)) one (omega (arith, more))) (none-none _ going)));
    })

run-steps : (rules : Rules) (s : State) (schedule : List ℕ) → HasSteps rules s → HasSteps rules (run_from rules s schedule)
run-steps rules s [] k = k
run-steps rules s (i ∷ is) k = run-steps rules (step_of rules s i) is (step-steps rules s i k)

first-made : (c : Config) → c.setup.vcpus ≡ 1 → made_of (first_state c.image c.setup) 0 ≡ 0
unfolding first_state first_slots
first-made c one = ap (λ (x : Slot). x.made) (get_or-map-range_with_len (first_slot c.image.entry c.setup.start) 0 c.setup.vcpus 0 0 no_slot (omega (arith, one)) (omega arith))

full-steps : (c : Config) → IsConfig c → c.setup.vcpus ≡ 1 → (schedule : List ℕ) → HasSteps (rules_in c) (full c schedule)
full-steps c ok one schedule =
    let some : 1 ≤ c.setup.steps = ok.setup.setup.steps_some in
    run-steps (rules_in c) (first_state c.image c.setup) schedule (record { one = full-vcpus c [] ∙ one; left = λ going. omega (arith, first-made c one, some) })

open-ended : (rules : Rules) (s : State) → HasSteps rules s → may rules s 0 ≡ false → is_none s.end ≡ true → ⊥
open-ended rules s k stuck going =
    let left : made_of s 0 < rules.steps = k.left going in
    let closed : is_none s.end ≡ false = left-by (length s.slots) (made_of s 0) rules.steps (is_none s.end) stuck (omega (arith, k.one)) left in
    absurd (cc)

ended-by : (rules : Rules) (s : State) → HasSteps rules s → may rules s 0 ≡ false → IsSome s.end
ended-by rules s k stuck =
    elim (is_none s.end) as (λ b. is_none s.end ≡ b → IsSome s.end) [
      | true ↦ λ e. absurd (open-ended rules s k stuck e)
      | false ↦ λ e. some-end s.end e
    ] refl

pub over_is_ended : (c : Config) → IsConfig c → c.setup.vcpus ≡ 1 → (is : List ℕ) → went_of (go_all (first_world c) is) 0 ≡ Over → HasEnded (go_all (first_world c) is)
over_is_ended c ok one is over =
    let k : IsKept c (go_all (first_world c) is) = kept_of_events c ok is in
    ended-by (go_all (first_world c) is).board.rules (go_all (first_world c) is).board.state
    (subst (λ (b : Seat). HasSteps b.rules b.state) (sym k.board) (full-steps c ok one (go_all (first_world c) is).board.schedule))
    (over-may (go_all (first_world c) is) 0 over)
