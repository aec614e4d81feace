-- A round of events, one of each vCPU.
use Rattle.std.proofs.Common.{◌≡◌, ℕ, ◌+◌, ◌<◌, ◌≤◌, Bool, true, false, arith, refl, ◌∙◌, sym, ap, subst, suc, List, [], ◌∷◌, ◌++◌, append_assoc}
use Rattle.std.specs.Prelude.{nat_eq}
use Rattle.std.proofs.lemmas.Bool.Decides.{nat_tests}
use Rattle.vcpu_core.specs.World.{World, go_all, go_of, went_of}
use Rattle.vcpu_core.specs.Waits.{all_left}
use Rattle.vcpu_core.specs.declared.lane.Went.TheVariants.{Over}
use Rattle.guest_runs.specs.Engine.{round_of, rounds_of, events_of_script}
use Rattle.guest_runs.proofs.Events.{go_all-append, go_all-more, over_stays, range-more}

-- the events of the vCPUs below i led here; where none of them was one, nothing has changed
pub record InRound (first now : World) (went : Bool) (i : ℕ) : Type 0 where
  pub led : now ≡ go_all first (round_of i)
  pub same : went ≡ false → now ≡ first
  pub idle : went ≡ false → (k : ℕ) → k < i → went_of first k ≡ Over
  pub fewer : went ≡ true → all_left now < all_left first

round-more : (i : ℕ) → round_of (i + 1) ≡ round_of i ++ i ∷ []
round-more i = let e : 0 + i ≡ i = omega arith in range-more 0 i ∙ ap (λ x. round_of i ++ x ∷ []) e

led-on : (first now new : World) (i : ℕ) → now ≡ go_all first (round_of i) → new ≡ go_of now i → new ≡ go_all first (round_of (i + 1))
led-on first now new i led gone =
    gone ∙ ap (λ w. go_of w i) led ∙ sym (go_all-more first (round_of i) i) ∙ ap (go_all first) (sym (round-more i))

-- none more than at first
no-more : (first now : World) (went : Bool) (i : ℕ) → InRound first now went i → all_left now ≤ all_left first
no-more first now true i r = let h = r.fewer refl in omega (arith, h)
no-more first now false i r = let h : all_left now ≡ all_left first = ap all_left (r.same refl) in omega (arith, h)

pub over-on : (first now new : World) (went : Bool) (i : ℕ) → InRound first now went i → went_of now i ≡ Over → new ≡ go_of now i → InRound first new went (i + 1)
over-on first now new went i r over gone =
    let stays : new ≡ now = gone ∙ over_stays now i over in
    record {
      led = led-on first now new i r.led gone;
      same = λ no. stays ∙ r.same no;
      idle = λ no k within. elim (nat_eq k i) as (λ b. nat_eq k i ≡ b → went_of first k ≡ Over) [
        | true ↦ λ is. let here : k ≡ i = grind (arith, nat_tests, is) in subst (λ x. went_of first x ≡ Over) (sym here) (subst (λ w. went_of w i ≡ Over) (r.same no) over)
        | false ↦ λ is. let below : k < i = grind (arith, nat_tests, is, within) in r.idle no k below
      ] refl;
      fewer = λ yes. subst (λ w. all_left w < all_left first) (sym stays) (r.fewer yes);
    }

pub went-on : (first now new : World) (went : Bool) (i : ℕ) → InRound first now went i → all_left new < all_left now → new ≡ go_of now i → InRound first new true (i + 1)
went-on first now new went i r falls gone =
    let most : all_left now ≤ all_left first = no-more first now went i r in
    record {
      led = led-on first now new i r.led gone;
      same = λ no. absurd (cc no);
      idle = λ no. absurd (cc no);
      fewer = λ yes. omega (arith, falls, most);
    }

-- one more round behind a script
pub one-round : (w : World) (script : List ℕ) (vcpus rounds : ℕ) → go_all w (events_of_script script vcpus (suc rounds)) ≡ go_all (go_all w (events_of_script script vcpus rounds)) (round_of vcpus)
one-round w script vcpus rounds =
    let joined : events_of_script script vcpus (suc rounds) ≡ events_of_script script vcpus rounds ++ round_of vcpus = sym (append_assoc script (rounds_of vcpus rounds) (round_of vcpus)) in
    ap (go_all w) joined ∙ go_all-append w (events_of_script script vcpus rounds) (round_of vcpus)
