-- What a step of the board begins with, counts and leaves.
use Rattle.std.proofs.Common.{◌≡◌, ◌≢◌, ℕ, ◌+◌, ◌<◌, ◌≤◌, true, false, Bool, List, length, refl, sym, ap, subst, ◌∙◌, arith, Option, Some, None}
use Rattle.std.specs.Prelude.{◌&&◌, is_none, nat_lt, slice_index_or}
use Rattle.std.proofs.lemmas.Bool.Decides.{nat_tests}
use Rattle.std.proofs.lemmas.List.{get_or_past}
use mathlib.Core.Logic.{dite}
use native.Mathlib.Decide.{dec_lt, ℕ_discrete}
use Rattle.fc_numbers.specs.declared.machine.End.{End}
use Rattle.guest_ram.specs.Ram.{Ram, IsLaid, is_text}
use Rattle.rv_step.specs.Kept.{KeepsText}
use Rattle.rv_step.specs.Site.{Site}
use Rattle.guest_board.specs.declared.rules.Rules.{Rules}
use Rattle.guest_board.specs.declared.slot.Slot.{Slot}
use Rattle.guest_board.specs.declared.step.StepStart.{StepStart}
use Rattle.guest_board.specs.declared.step.StepStart.TheVariants.{Interrupt, Fetches}
use Rattle.guest_board.specs.Made.{Made}
use Rattle.guest_board.specs.Step.{due_at, made_by, place_of, start_by, step_start}
use Rattle.guest_board.specs.Board.{State, after_made, is_same_place, made_of, may, name_after, name_of, next_of, next_start, no_slot, site_of, slot_after, slot_of, slots_after, step_of, stepped_by}
use Rattle.guest_board.proofs.Others.{leaves_others}
use Rattle.guest_board.proofs.Places.{HalvesAre, fetched-halves, text_place-is}
use Rattle.guest_board.proofs.Slots.{slots-length, slots-own}
use Rattle.guest_board.proofs.Stays.{laid_kept, stepped_keeps}

pub step-is : (rules : Rules) (s : State) (i : ℕ) → step_of rules s i ≡ stepped_by rules s i (next_start s i)
unfolding step_of
step-is rules s i = refl

pub next-is : (s : State) (i : ℕ) → next_of s i ≡ place_of (next_start s i)
unfolding next_of
next-is s i = refl

pub stepped-slots : (rules : Rules) (s : State) (i : ℕ) (start : StepStart) → length (stepped_by rules s i start).slots ≡ length s.slots
unfolding after_made
stepped-slots rules s i start = slots-length rules s i start (made_by start s.clock (site_of s i))

pub stepped-clock : (rules : Rules) (s : State) (i : ℕ) (start : StepStart) → (stepped_by rules s i start).clock ≡ s.clock + 1
unfolding after_made
stepped-clock rules s i start = refl

pub may-slot : (rules : Rules) (s : State) (i : ℕ) → may rules s i ≡ true → i < length s.slots
may-slot rules s i m = grind (arith, nat_tests, m)

pub may-left : (rules : Rules) (s : State) (i : ℕ) → may rules s i ≡ true → made_of s i < rules.steps
may-left rules s i m = grind (arith, nat_tests, m)

pub may-none : (rules : Rules) (s : State) (i : ℕ) → may rules s i ≡ true → is_none s.end ≡ true
may-none rules s i m = grind (arith, nat_tests, m)

-- what a step begins with has the halfwords of the memory
abbrev pub StartIs : Ram → StepStart → Type 0
StartIs ram (Interrupt code) = Unit {0}
StartIs ram (Fetches got) = HalvesAre ram got

start_by-is : (s : Site) (o : Option ℕ) → StartIs s.ram (start_by o s)
start_by-is s None = fetched-halves s.vcpu s.ram
start_by-is s (Some code) = tt

site-start : (s : Site) (clock : ℕ) → StartIs s.ram (step_start s clock)
unfolding step_start
site-start s clock = start_by-is s (due_at s clock)

pub start-is : (s : State) (i : ℕ) → StartIs s.ram (next_start s i)
start-is s i = site-start (site_of s i) s.clock

place-is : (ram : Ram) (start : StepStart) (p : ℕ) → StartIs ram start → place_of start ≡ Some p → is_text ram p ≡ true
place-is ram (Interrupt code) p k e = absurd (cc)
place-is ram (Fetches got) p k e = text_place-is ram got p k e

-- the place that is fetched next is in text
pub next-text : (s : State) (i p : ℕ) → next_of s i ≡ Some p → is_text s.ram p ≡ true
unfolding next_of
next-text s i p e = place-is s.ram (next_start s i) p (start-is s i) e

-- a step keeps kernel text, and memory stays laid lawfully
pub step-keeps : (rules : Rules) (s : State) (i : ℕ) → IsLaid s.ram → KeepsText s.ram (step_of rules s i).ram
step-keeps rules s i laid = rw (step-is rules s i) (stepped_keeps rules s i (next_start s i) laid)

pub step-laid : (rules : Rules) (s : State) (i : ℕ) → IsLaid s.ram → IsLaid (step_of rules s i).ram
step-laid rules s i laid = laid_kept s.ram (step_of rules s i).ram (step-keeps rules s i laid) laid

-- another vCPU's step leaves a name
pub other-name : (rules : Rules) (s : State) (i k : ℕ) (start : StepStart) → k ≢ i → name_of (stepped_by rules s i start) k ≡ name_of s k
other-name rules s i k start other = (leaves_others rules s i k start other).name

-- where no step is a hook step, a step keeps every name
no-hook : (place : Option ℕ) (hook : Option ℕ) (b : Bool) → hook ≡ None → (is_same_place place hook && b) ≡ false
no-hook None hook b unhooked = refl
no-hook (Some p) None b unhooked = refl
no-hook (Some p) (Some q) b unhooked = absurd (cc)

kept-name : (rules : Rules) (s : Site) (slot : Slot) (start : StepStart) (m : Made) → rules.hook ≡ None → (slot_after rules s slot start m).name ≡ slot.name
unfolding slot_after
kept-name rules s slot start m unhooked =
    ap (λ b. name_after b rules s slot.name) (no-hook (place_of start) rules.hook (is_none m.left.end) unhooked)

past-slot : (slots : List Slot) (k : ℕ) → length slots ≤ k → slice_index_or slots k no_slot ≡ no_slot
past-slot slots k over = get_or_past slots k no_slot over

own-name : (rules : Rules) (s : State) (i : ℕ) (start : StepStart) → rules.hook ≡ None → name_of (stepped_by rules s i start) i ≡ name_of s i
unfolding after_made
own-name rules s i start unhooked =
    dite (dec_lt i (length s.slots))
    (λ inside. ap (λ (x : Slot). x.name) (slots-own rules s i start (made_by start s.clock (site_of s i)) inside) ∙ kept-name rules (site_of s i) (slot_of s i) start (made_by start s.clock (site_of s i)) unhooked)
    (λ outside.
    let long : length (slots_after rules s i start (made_by start s.clock (site_of s i))) ≡ length s.slots = slots-length rules s i start (made_by start s.clock (site_of s i)) in
    ap (λ (x : Slot). x.name) (past-slot (slots_after rules s i start (made_by start s.clock (site_of s i))) i (omega (arith, long, outside)))
    ∙ ap (λ (x : Slot). x.name) (sym (past-slot s.slots i (omega (arith, outside)))))

pub step-name : (rules : Rules) (s : State) (i k : ℕ) → rules.hook ≡ None → name_of (step_of rules s i) k ≡ name_of s k
step-name rules s i k unhooked =
    rw (step-is rules s i)
    (dite (ℕ_discrete k i) (λ same. subst (λ j. name_of (stepped_by rules s i (next_start s i)) j ≡ name_of s j) (sym same) (own-name rules s i (next_start s i) unhooked))
    (λ other. other-name rules s i k (next_start s i) other))

-- a vCPU that may not step may not after another vCPU's step
middle : (a e d : Bool) → (a && e && d) ≡ true → e ≡ true
middle true true d t = refl
middle true false d t = absurd (let z : false ≡ true = t in cc)
middle false e d t = absurd (let z : false ≡ true = t in cc)

stuck_by : (a e d e' : Bool) → (a && e && d) ≡ false → e ≡ true → (a && e' && d) ≡ false
stuck_by true true true e' t u = absurd (let z : true ≡ false = t in cc)
stuck_by true true false true t u = refl
stuck_by true true false false t u = refl
stuck_by true false d e' t u = absurd (let z : false ≡ true = u in cc)
stuck_by false e d e' t u = refl

pub stopped-step : (rules : Rules) (s : State) (i j : ℕ) → may rules s i ≡ false → may rules s j ≡ true → may rules (step_of rules s j) i ≡ false
stopped-step rules s i j stuck goes =
    let apart : i ≢ j = λ q. let z : may rules s i ≡ true = subst (λ (k : ℕ). may rules s k ≡ true) (sym q) goes in let y : true ≡ false = sym z ∙ stuck in cc in
    let open_end : is_none s.end ≡ true = middle (nat_lt j (length s.slots)) (is_none s.end) (nat_lt (made_of s j) rules.steps) goes in
    let long : length (stepped_by rules s j (next_start s j)).slots ≡ length s.slots = stepped-slots rules s j (next_start s j) in
    let count : made_of (stepped_by rules s j (next_start s j)) i ≡ made_of s i = (leaves_others rules s j i (next_start s j) apart).made in
    rw (step-is rules s j)
    ((λ k. nat_lt i (long k) && is_none (stepped_by rules s j (next_start s j)).end && nat_lt (count k) rules.steps)
    ∙ stuck_by (nat_lt i (length s.slots)) (is_none s.end) (nat_lt (made_of s i) rules.steps) (is_none (stepped_by rules s j (next_start s j)).end) stuck open_end)
