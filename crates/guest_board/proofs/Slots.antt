-- The slots after a step: how many there are, and what is kept of one.
use Rattle.std.proofs.Common.{◌≡◌, ◌≢◌, ℕ, zero, suc, ◌+◌, ◌<◌, ◌≤◌, refl, ap, ◌∙◌, arith, Option, Some, None, List, [], ◌∷◌, length, map, length-set}
use Rattle.std.specs.Prelude.{slice_index_or, slice_set}
use Rattle.std.proofs.lemmas.List.{get_or-set_other, get_or-set_same, length-map, map-set, set-set}
use Rattle.std.proofs.Math.ListN.{get_or-map}
use Rattle.guest_board.specs.declared.rules.Rules.{Rules}
use Rattle.guest_board.specs.declared.slot.Slot.{Slot}
use Rattle.guest_board.specs.declared.step.StepStart.{StepStart}
use Rattle.guest_board.specs.Made.{Made}
use Rattle.guest_board.specs.Board.{State, broken, broken_by, no_slot, released, site_of, slot_after, slot_of, slots_after}

pub broken-length : (wrote : Option ℕ) (slots : List Slot) → length (broken_by wrote slots) ≡ length slots
broken-length None slots = refl
broken-length (Some p) slots = length-map slots (broken p)

pub broken-slot : (wrote : Option ℕ) (slots : List Slot) (k : ℕ) → slice_index_or (broken_by wrote slots) k no_slot ≡ released wrote (slice_index_or slots k no_slot)
broken-slot None slots k = refl
broken-slot (Some p) slots k = get_or-map (broken p) slots k no_slot

pub released-made : (wrote : Option ℕ) (slot : Slot) → (released wrote slot).made ≡ slot.made
released-made None slot = refl
released-made (Some p) slot = refl

pub released-depth : (wrote : Option ℕ) (slot : Slot) → (released wrote slot).depth ≡ slot.depth
released-depth None slot = refl
released-depth (Some p) slot = refl

pub slots-length : (rules : Rules) (s : State) (i : ℕ) (start : StepStart) (m : Made) → length (slots_after rules s i start m) ≡ length s.slots
slots-length rules s i start m = simp length-set (broken-length m.left.wrote s.slots)

-- the slot of another vCPU
pub slots-other : (rules : Rules) (s : State) (i j : ℕ) (start : StepStart) (m : Made) → j ≢ i
    → slice_index_or (slots_after rules s i start m) j no_slot ≡ released m.left.wrote (slot_of s j)
slots-other rules s i j start m other =
    get_or-set_other (broken_by m.left.wrote s.slots) i j (slot_after rules (site_of s i) (slot_of s i) start m) no_slot other ∙ broken-slot m.left.wrote s.slots j

-- the slot of the vCPU that stepped
pub slots-own : (rules : Rules) (s : State) (i : ℕ) (start : StepStart) (m : Made) → i < length s.slots
    → slice_index_or (slots_after rules s i start m) i no_slot ≡ slot_after rules (site_of s i) (slot_of s i) start m
slots-own rules s i start m inside =
    get_or-set_same (broken_by m.left.wrote s.slots) i (slot_after rules (site_of s i) (slot_of s i) start m) no_slot (rw (broken-length m.left.wrote s.slots) inside)

-- what a write breaks in others, where the slot of the vCPU that wrote was set before
pub broken-set : (wrote : Option ℕ) (i : ℕ) (slots : List Slot) (a b : Slot) → slice_set (broken_by wrote (slice_set slots i a)) i b ≡ slice_set (broken_by wrote slots) i b
broken-set None i slots a b = set-set slots i a b
broken-set (Some p) i slots a b = ap (λ (xs : List Slot). slice_set xs i b) (map-set (broken p) slots i a) ∙ set-set (map (broken p) slots) i (broken p a) b

-- the same, where the slots are told one after another
pub broken-after : (wrote : Option ℕ) (i : ℕ) (slots set all : List Slot) (new : Slot) → set ≡ slice_set slots i new → i < length slots → all ≡ slice_set (broken_by wrote set) i (slice_index_or set i no_slot)
    → all ≡ slice_set (broken_by wrote slots) i new
broken-after wrote i slots set all new is inside then =
    let own : slice_index_or set i no_slot ≡ new = ap (λ (xs : List Slot). slice_index_or xs i no_slot) is ∙ get_or-set_same slots i new no_slot inside in
    then ∙ rw (is, get_or-set_same slots i new no_slot inside) (broken-set wrote i slots new new)

-- the reservations that others lose, where the own is put back
pub put-back : (p i : ℕ) (slots : List Slot) (own : Option ℕ) → i < length slots → own ≡ (slice_index_or slots i no_slot).vcpu.reserved
    → slice_set (map (broken p) slots) i (record (broken p (slice_index_or slots i no_slot)) { vcpu = record (broken p (slice_index_or slots i no_slot)).vcpu { reserved = own } }) ≡ slice_set (map (broken p) slots) i (slice_index_or slots i no_slot)
put-back p i slots own inside is = rw is refl

set-below : (slots : List Slot) (i : ℕ) (new : Slot) (n : ℕ) → ((k : ℕ) → (slice_index_or slots k no_slot).depth ≤ n) → new.depth ≤ n → (k : ℕ) → (slice_index_or (slice_set slots i new) k no_slot).depth ≤ n
set-below [] i new n all least k = all k
set-below (slot ∷ slots) zero new n all least zero = least
set-below (slot ∷ slots) zero new n all least (suc k) = all (suc k)
set-below (slot ∷ slots) (suc i) new n all least zero = all zero
set-below (slot ∷ slots) (suc i) new n all least (suc k) = set-below slots i new n (λ j. all (suc j)) least k

-- no depth is above the clock after one more step
pub depths-below : (wrote : Option ℕ) (slots : List Slot) (i : ℕ) (new : Slot) (n : ℕ) → ((k : ℕ) → (slice_index_or slots k no_slot).depth ≤ n) → new.depth ≤ n + 1
    → (k : ℕ) → (slice_index_or (slice_set (broken_by wrote slots) i new) k no_slot).depth ≤ n + 1
depths-below wrote slots i new n all least k = set-below (broken_by wrote slots) i new (n + 1) (λ j. broken-below j) least k
  where
    broken-below : (j : ℕ) → (slice_index_or (broken_by wrote slots) j no_slot).depth ≤ n + 1
    broken-below j = rw (broken-slot wrote slots j, released-depth wrote (slice_index_or slots j no_slot)) (omega (arith, all j))
