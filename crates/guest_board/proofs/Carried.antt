-- The slots after a step, told as the code makes them: the step of one, and then what it breaks in the others.
use Rattle.std.proofs.Common.{◌≡◌, ℕ, ◌+◌, ◌<◌, ◌≤◌, refl, ap, ◌∙◌, Option, List, length, length-set}
use Rattle.std.specs.Prelude.{slice_index_or, slice_set}
use Rattle.rv_step.specs.Site.{Site}
use Rattle.guest_board.specs.declared.rules.Rules.{Rules}
use Rattle.guest_board.specs.declared.slot.Slot.{Slot}
use Rattle.guest_board.specs.declared.step.StepStart.{StepStart}
use Rattle.guest_board.specs.Made.{Made}
use Rattle.guest_board.specs.Board.{broken_by, no_slot, slot_after}
use Rattle.guest_board.specs.Housed.{left_total}
use Rattle.guest_board.proofs.LeftOver.{one_less}
use Rattle.guest_board.proofs.Slots.{broken-after, broken-length, depths-below}
use Rattle.guest_board.proofs.Steps.{slot-depth}

-- what is known of the slots once the write of vCPU i has broken what it breaks
pub all-slots : (wrote wrote2 : Option ℕ) (i : ℕ) (slots all : List Slot) (new new2 : Slot) → i < length slots → all ≡ slice_set (broken_by wrote (slice_set slots i new)) i (slice_index_or (slice_set slots i new) i no_slot) → new ≡ new2 → wrote ≡ wrote2
    → all ≡ slice_set (broken_by wrote2 slots) i new2
all-slots wrote wrote2 i slots all new new2 inside then same-slot same-wrote =
    broken-after wrote i slots (slice_set slots i new) all new refl inside then ∙ rw (same-wrote, same-slot) refl

pub all-length : (wrote : Option ℕ) (i : ℕ) (slots all : List Slot) (new : Slot) → all ≡ slice_set (broken_by wrote slots) i new → length all ≡ length slots
all-length wrote i slots all new is = ap length is ∙ length-set (broken_by wrote slots) i new ∙ broken-length wrote slots

slot-made : (rules : Rules) (s : Site) (old : Slot) (start : StepStart) (m : Made) → (slot_after rules s old start m).made ≡ old.made + 1
unfolding slot_after
slot-made rules s old start m = refl

pub all-left : (rules : Rules) (s : Site) (start : StepStart) (m : Made) (wrote : Option ℕ) (i : ℕ) (slots all : List Slot) → i < length slots → (slice_index_or slots i no_slot).made < rules.steps
    → all ≡ slice_set (broken_by wrote slots) i (slot_after rules s (slice_index_or slots i no_slot) start m) → left_total rules.steps all + 1 ≡ left_total rules.steps slots
all-left rules s start m wrote i slots all inside below is =
    let old : Slot = slice_index_or slots i no_slot in
    rw is (one_less rules.steps wrote slots i (slot_after rules s old start m) inside below (slot-made rules s old start m))

pub all-depths : (rules : Rules) (s : Site) (start : StepStart) (m : Made) (wrote : Option ℕ) (i : ℕ) (slots all : List Slot) (n : ℕ) → ((k : ℕ) → (slice_index_or slots k no_slot).depth ≤ n)
    → all ≡ slice_set (broken_by wrote slots) i (slot_after rules s (slice_index_or slots i no_slot) start m) → (k : ℕ) → (slice_index_or all k no_slot).depth ≤ n + 1
all-depths rules s start m wrote i slots all n low is k =
    let old : Slot = slice_index_or slots i no_slot in
    rw is (depths-below wrote slots i (slot_after rules s old start m) n low (slot-depth rules s old start m n (low i)) k)
