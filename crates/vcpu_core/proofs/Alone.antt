-- With one vCPU every list after which the run has ended is undisturbed.
use Rattle.std.proofs.Common.{◌≡◌, ◌≢◌, ℕ, true, List, [], ◌∷◌, length, refl, sym, subst, ◌∙◌, arith, Option, Some, None}
use Rattle.std.specs.Prelude.{is_none, IsSome}
use Rattle.fc_numbers.specs.declared.machine.End.{End}
use Rattle.guest_board.specs.declared.rules.Rules.{Rules}
use Rattle.guest_board.specs.Board.{may, Seat, State}
use Rattle.run_evidence.proofs.Steps.{may-none, may-slot}
use Rattle.run_evidence.specs.Config.{Config, IsConfig}
use Rattle.vcpu_core.specs.declared.lane.Went.TheVariants.{Over, Stepped, Erased}
use Rattle.vcpu_core.specs.World.{World, go_all, go_of, went_of}
use Rattle.vcpu_core.specs.First.{first_world}
use Rattle.vcpu_core.specs.Missed.{HasEnded}
use Rattle.vcpu_core.proofs.Kept.{IsKept, go-kept}
use Rattle.vcpu_core.proofs.Start.{first-kept}
use Rattle.vcpu_core.proofs.OneVcpu.{in_order}
use Rattle.vcpu_core.proofs.Events.{go-erased, lanes-stay, over-still, went-may}
use Rattle.vcpu_core.specs.Undisturbed.{first_by, StepsFirst, IsUndisturbed}

-- who goes on is vCPU 0
first-only : (c : Config) (w : World) (i : ℕ) → IsKept c w → length w.lanes ≡ 1 → went_of w i ≢ Over → i ≡ 0
first-only c w i k one on = omega (arith, may-slot w.board.rules w.board.state i (went-may w i on), k.ready.lanes, one)

none-some : (e : Option End) → is_none e ≡ true → IsSome e → ⊥
none-some None n s = absurd (cc)
none-some (Some e) n s = absurd (cc)

-- who may step does so before the end
running : (rules : Rules) (s : State) (i : ℕ) → may rules s i ≡ true → IsSome s.end → ⊥
running rules s i m ended = none-some s.end (may-none rules s i m) ended

steps-first : (c : Config) → IsConfig c → (w : World) (i : ℕ) (is : List ℕ) → IsKept c w → length w.lanes ≡ 1 → i ≡ 0 → (IsSome w.board.state.end → ⊥) → HasEnded (go_all w is) → StepsFirst w i is
steps-first c ok w i [] k one z go_on ended = absurd (go_on ended)
steps-first c ok w i (j ∷ js) k one z go_on ended =
    let more : (IsSome (go_of w j).board.state.end → ⊥) → StepsFirst (go_of w j) i js = λ h. steps-first c ok (go_of w j) i js (go-kept c ok w j k) (lanes-stay w j ∙ one) z h ended in
    elim (went_of w j) as (λ g. went_of w j ≡ g → first_by g j i (StepsFirst (go_of w j) i js)) [
      | Over ↦ λ e. more (λ h. go_on (subst (λ (x : World). IsSome x.board.state.end) (over-still w j e) h))
      | Stepped ↦ λ e. first-only c w j k one (λ o. let x : Stepped ≡ Over = sym e ∙ o in absurd (cc)) ∙ sym z
      | Erased ↦ λ e. more (λ h. go_on (subst (λ (b : Seat). IsSome b.state.end) (go-erased w j e) h))
    ] refl

ended-from : (c : Config) → IsConfig c → (w : World) (is : List ℕ) → IsKept c w → length w.lanes ≡ 1 → HasEnded (go_all w is) → IsUndisturbed w is
ended-from c ok w [] k one ended = tt
ended-from c ok w (i ∷ is) k one ended = (
  (λ e.
      let on : went_of w i ≢ Over = λ o. let x : Erased ≡ Over = sym e ∙ o in absurd (cc) in
      steps-first c ok (go_of w i) i is (go-kept c ok w i k) (lanes-stay w i ∙ one) (first-only c w i k one on)
      (λ h. running w.board.rules w.board.state i (went-may w i on) (subst (λ (b : Seat). IsSome b.state.end) (go-erased w i e) h)) ended),
  ended-from c ok (go_of w i) is (go-kept c ok w i k) (lanes-stay w i ∙ one) ended,
)

pub one_is_undisturbed : (c : Config) → IsConfig c → c.setup.vcpus ≡ 1 → (is : List ℕ) → HasEnded (go_all (first_world c) is) → IsUndisturbed (first_world c) is
one_is_undisturbed c ok one is ended = ended-from c ok (first_world c) is (first-kept c ok) (in_order c ok one []).one ended
