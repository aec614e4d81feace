-- Who may not step any more, and that a run in which nobody may has ended.
use Rattle.std.proofs.Common.{◌≡◌, ◌≢◌, ℕ, zero, suc, ◌<◌, ◌≤◌, Bool, true, false, refl, sym, ap, subst, ◌∙◌, arith, Option, Some, None, List, [], ◌∷◌, length}
use Rattle.std.specs.Prelude.{if◌then◌else◌, ◌&&◌, nat_le, nat_lt, is_none, slice_index_or}
use Rattle.std.specs.List.{list_all}
use Rattle.std.proofs.lemmas.Bool.Decides.{nat_tests}
use Rattle.fc_numbers.specs.declared.machine.End.{End}
use Rattle.fc_numbers.specs.declared.machine.End.TheVariants.{Spent}
use Rattle.guest_board.specs.declared.rules.Rules.{Rules}
use Rattle.guest_board.specs.declared.slot.Slot.{Slot}
use Rattle.guest_board.specs.declared.step.StepStart.{StepStart}
use Rattle.guest_board.specs.Made.{Made}
use Rattle.guest_board.specs.Step.{made_by}
use Rattle.guest_board.specs.Board.{State, after_made, end_after, is_spent, made_of, may, no_slot, site_of, slot_of, stepped_by}
use Rattle.guest_board.specs.Laws.{EndsStay, IdleRunsHaveEnded, IdleVcpusStay}
use Rattle.guest_board.proofs.Slots.{released-made}
use Rattle.guest_board.proofs.Others.{releases_others}
use Rattle.guest_board.proofs.Steps.{number_stays}

ended-may : (rules : Rules) (s : State) (i : ℕ) (e : End) → s.end ≡ Some e → may rules s i ≡ false
ended-may rules s i e is = middle (nat_lt i (length s.slots)) (is_none s.end) (nat_lt (made_of s i) rules.steps) (ap (λ (o : Option End). is_none o) is)
  where
    middle : (a b c : Bool) → b ≡ false → (a && b && c) ≡ false
    middle true b c h = rw h refl
    middle false b c h = refl

pub ends_stay : EndsStay
ends_stay b i e is = rw (ended-may b.rules b.state i e is) refl

idle-by : (k n m n2 m2 steps : ℕ) (o o2 : Bool) → o ≡ true → (nat_lt k n && o && nat_lt m steps) ≡ false → n2 ≡ n → m ≤ m2 → (nat_lt k n2 && o2 && nat_lt m2 steps) ≡ false
idle-by k n m n2 m2 steps o o2 on idle same more = grind (arith, nat_tests, on, idle, same, more)

may-running : (rules : Rules) (s : State) (i : ℕ) → may rules s i ≡ true → is_none s.end ≡ true
may-running rules s i m = middle (nat_lt i (length s.slots)) (is_none s.end) (nat_lt (made_of s i) rules.steps) m
  where
    middle : (a b c : Bool) → (a && b && c) ≡ true → b ≡ true
    middle true true c h = refl
    middle true false c h = h
    middle false true c h = refl
    middle false false c h = h

other-made : (rules : Rules) (s : State) (i k : ℕ) (start : StepStart) → k ≢ i → made_of (stepped_by rules s i start) k ≡ made_of s k
other-made rules s i k start other =
    ap (λ (slot : Slot). slot.made) (releases_others rules s i k start other) ∙ released-made (made_by start s.clock (site_of s i)).left.wrote (slot_of s k)

pub idle_vcpus_stay : IdleVcpusStay
idle_vcpus_stay rules s i k start may-i idle =
    let other : k ≢ i = λ same. absurd (cc (may-i, idle, same)) in
    let made : made_of (stepped_by rules s i start) k ≡ made_of s k = other-made rules s i k start other in
    idle-by k (length s.slots) (made_of s k) (length (stepped_by rules s i start).slots) (made_of (stepped_by rules s i start) k) rules.steps
    (is_none s.end) (is_none (stepped_by rules s i start).end) (may-running rules s i may-i) idle (number_stays rules s i start) (omega (arith, made))

all-spent : (steps : ℕ) (slots : List Slot) → ((k : ℕ) → k < length slots → steps ≤ (slice_index_or slots k no_slot).made) → list_all (λ slot. nat_le steps slot.made) slots ≡ true
all-spent steps [] all = refl
all-spent steps (slot ∷ slots) all =
    let here : nat_le steps slot.made ≡ true = grind (arith, nat_tests, all zero (omega arith)) in
    rw here (all-spent steps slots (λ k h. all (suc k) (omega (arith, h))))

spent-by : (k n m steps : ℕ) (o : Bool) → o ≡ true → (nat_lt k n && o && nat_lt m steps) ≡ false → k < n → steps ≤ m
spent-by k n m steps o on idle inside = grind (arith, nat_tests, on, idle, inside)

-- with no step left the run ends
spent-ends : (rules : Rules) (slots : List Slot) (o : Option End) → (end_after rules slots o ≡ None → is_spent rules slots ≡ true) → end_after rules slots o ≢ None
spent-ends rules slots (Some e) spent none = absurd (cc none)
spent-ends rules slots None spent none =
    absurd (cc (none, subst (λ b. (if b then Some Spent else None) ≡ Some Spent) (sym (spent none)) refl))

end-is : (rules : Rules) (s : State) (i : ℕ) (start : StepStart) (m : Made) → (after_made rules s i start m).end ≡ end_after rules (after_made rules s i start m).slots m.left.end
unfolding after_made
end-is rules s i start m = refl

pub idle_runs_have_ended : IdleRunsHaveEnded
idle_runs_have_ended rules s i start idle none =
    let t : State = stepped_by rules s i start in
    let m : Made = made_by start s.clock (site_of s i) in
    spent-ends rules t.slots m.left.end
    (λ e. all-spent rules.steps t.slots (λ k inside. spent-by k (length t.slots) (made_of t k) rules.steps (is_none t.end) (ap (λ (o : Option End). is_none o) none) (idle k) inside))
    (sym (end-is rules s i start m) ∙ none)
