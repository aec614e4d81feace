-- A step of one vCPU leaves the others, but for their reservations.
use Rattle.std.proofs.Common.{◌≡◌, ◌≢◌, ℕ, refl, sym, subst, Option, Some, None}
use Rattle.guest_board.specs.declared.rules.Rules.{Rules}
use Rattle.guest_board.specs.declared.slot.Slot.{Slot}
use Rattle.guest_board.specs.declared.step.StepStart.{StepStart}
use Rattle.guest_board.specs.Made.{Made}
use Rattle.guest_board.specs.Step.{made_by}
use Rattle.guest_board.specs.Board.{State, after_made, released, site_of, slot_of}
use Rattle.guest_board.specs.Laws.{IsSameSlot, StepsLeaveOthers, StepsReleaseOthers}
use Rattle.guest_board.proofs.Slots.{slots-other}

after-releases : (rules : Rules) (s : State) (i j : ℕ) (start : StepStart) (m : Made) → j ≢ i → slot_of (after_made rules s i start m) j ≡ released m.left.wrote (slot_of s j)
unfolding after_made
after-releases rules s i j start m other = slots-other rules s i j start m other

pub releases_others : StepsReleaseOthers
releases_others rules s i j start other = after-releases rules s i j start (made_by start s.clock (site_of s i)) other

released-same : (wrote : Option ℕ) (slot : Slot) → IsSameSlot slot (released wrote slot)
released-same None slot = record { regs = refl; pc = refl; mode = refl; csr = refl; number = refl; made = refl; name = refl; depth = refl }
released-same (Some p) slot = record { regs = refl; pc = refl; mode = refl; csr = refl; number = refl; made = refl; name = refl; depth = refl }

pub leaves_others : StepsLeaveOthers
leaves_others rules s i j start other =
    subst (λ (x : Slot). IsSameSlot (slot_of s j) x) (sym (releases_others rules s i j start other))
    (released-same (made_by start s.clock (site_of s i)).left.wrote (slot_of s j))
