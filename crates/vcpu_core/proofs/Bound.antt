-- Of ten events of a vCPU that goes on while no other steps, one is a step: each that is none leaves fewer, and events
-- of others that are no steps leave as many.
use Rattle.std.proofs.Common.{◌≡◌, ◌≢◌, ℕ, ◌+◌, ◌≤◌, true, false, List, [], ◌∷◌, refl, sym, ap, subst, ◌∙◌, arith, zero-add, ◌⊎◌, inl, inr}
use Rattle.std.specs.Prelude.{◌==◌, cond}
use Rattle.std.proofs.lemmas.List.Sums.{sum_by-cons}
use Rattle.std.proofs.lemmas.Bool.Decides.{nat_tests}
use mathlib.Core.Logic.{dite}
use native.Mathlib.Decide.{ℕ_discrete}
use Rattle.vcpu_core.specs.declared.lane.Went.{Went}
use Rattle.vcpu_core.specs.declared.lane.Went.TheVariants.{Over, Stepped, Erased}
use Rattle.vcpu_core.specs.Bound.{GoesOnAlone, OneInTenSteps, count_of_vcpu}
use Rattle.vcpu_core.specs.First.{first_world}
use Rattle.vcpu_core.specs.Waits.{waits_of}
use Rattle.vcpu_core.specs.World.{World, IsReady, erased, go_all, go_of, kept_if, lane_of, went_of}
use Rattle.vcpu_core.proofs.Events.{over-still}
use Rattle.vcpu_core.proofs.Kept.{IsKept, go-kept}
use Rattle.vcpu_core.proofs.Start.{kept_of_events}
use Rattle.vcpu_core.proofs.Waiting.{go-nearer, waits-apart, waits-most}

count-own : (i : ℕ) (js : List ℕ) → count_of_vcpu i (i ∷ js) ≡ 1 + count_of_vcpu i js
count-own i js =
    let same : (i == i) ≡ true = grind (arith, nat_tests) in
    sum_by-cons (λ j. cond (j == i) 1 0) i js ∙ ap (λ b. cond b 1 0 + count_of_vcpu i js) same

count-apart : (i j : ℕ) (js : List ℕ) → j ≢ i → count_of_vcpu i (j ∷ js) ≡ count_of_vcpu i js
count-apart i j js other =
    let apart : (j == i) ≡ false = grind (arith, nat_tests, other) in
    sum_by-cons (λ k. cond (k == i) 1 0) j js ∙ ap (λ b. cond b 1 0 + count_of_vcpu i js) apart ∙ zero-add (count_of_vcpu i js)

-- no more events are to come than the vCPU waits for, or it steps
abbrev ComesToStep : World → ℕ → List ℕ → List ℕ → Type 0
ComesToStep w i js steps = (count_of_vcpu i js ≤ waits_of w i (lane_of w i)) ⊎ (1 ≤ count_of_vcpu i steps)

own-more : (w : World) (i : ℕ) (js : List ℕ) (went : Went) → went_of w i ≡ went → IsReady w → went ≢ Over → ComesToStep (go_of w i) i js (erased (go_of w i) js)
    → ComesToStep w i (i ∷ js) (kept_if went i (erased (go_of w i) js))
own-more w i js Over e r on rest = absurd (on refl)
own-more w i js Stepped e r on rest = inr (omega (arith, count-own i (erased (go_of w i) js)))
own-more w i js Erased e r on (inl few) = inl (omega (arith, few, count-own i js, go-nearer w i r e))
own-more w i js Erased e r on (inr steps) = inr steps

apart-more : (w : World) (i j : ℕ) (js : List ℕ) (went : Went) → went_of w j ≡ went → j ≢ i → went ≢ Stepped → ComesToStep (go_of w j) i js (erased (go_of w j) js)
    → ComesToStep w i (j ∷ js) (kept_if went j (erased (go_of w j) js))
apart-more w i j js Over e other rests (inl few) =
    let same : waits_of (go_of w j) i (lane_of (go_of w j) i) ≡ waits_of w i (lane_of w i) = ap (λ (x : World). waits_of x i (lane_of x i)) (over-still w j e) in
    inl (omega (arith, few, same, count-apart i j js other))
apart-more w i j js Over e other rests (inr steps) = inr steps
apart-more w i j js Stepped e other rests rest = absurd (rests refl)
apart-more w i j js Erased e other rests (inl few) =
    let back : i ≢ j = λ s. other (sym s) in
    inl (omega (arith, few, count-apart i j js other, waits-apart w j i back e))
apart-more w i j js Erased e other rests (inr steps) = inr steps

module _ (Holds : World → Type 0) (keeps : (w : World) (i : ℕ) → Holds w → Holds (go_of w i)) (ready : (w : World) → Holds w → IsReady w) where
  comes : (w : World) (i : ℕ) (js : List ℕ) → Holds w → GoesOnAlone w i js → ComesToStep w i js (erased w js)
  comes w i [] h alone = inl (omega arith)
  comes w i (j ∷ js) h alone =
      let rest : ComesToStep (go_of w j) i js (erased (go_of w j) js) = comes (go_of w j) i js (keeps w j h) alone.2 in
      let own : went_of w i ≢ Over → ComesToStep (go_of w i) i js (erased (go_of w i) js) → ComesToStep w i (i ∷ js) (kept_if (went_of w i) i (erased (go_of w i) js)) =
      λ on there. own-more w i js (went_of w i) refl (ready w h) on there in
      dite (ℕ_discrete j i)
      (λ same. subst (λ k. went_of w k ≢ Over → ComesToStep (go_of w k) i js (erased (go_of w k) js) → ComesToStep w i (k ∷ js) (kept_if (went_of w k) k (erased (go_of w k) js))) (sym same) own
      (alone.0 same) rest)
      (λ other. apart-more w i j js (went_of w j) refl other (alone.1 other) rest)

  -- among ten events one is a step
  pub ten_come : (w : World) (i : ℕ) (js : List ℕ) → Holds w → GoesOnAlone w i js → 10 ≤ count_of_vcpu i js → 1 ≤ count_of_vcpu i (erased w js)
  ten_come w i js h alone ten = elim (comes w i js h alone) [
    | inl few ↦ absurd (omega (arith, few, ten, waits-most w i (lane_of w i)))
    | inr steps ↦ steps
  ]

pub one_in_ten_steps : OneInTenSteps
one_in_ten_steps c ok is js i alone ten = ten_come (IsKept c) (go-kept c ok) (λ w k. k.ready) (go_all (first_world c) is) i js (kept_of_events c ok is) alone ten
