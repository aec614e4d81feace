-- A step that ends the run by a stop or a shutdown has changed nothing else.
use Rattle.std.proofs.Common.{◌≡◌, ◌≢◌, ℕ, Bool, true, false, refl, sym, ◌∙◌, Option, Some, None, List}
use Rattle.std.specs.Prelude.{if◌then◌else◌, ◌&&◌, is_none, slice_set}
use Rattle.fc_numbers.specs.declared.machine.End.{End}
use Rattle.fc_numbers.specs.declared.machine.End.TheVariants.{Spent}
use Rattle.rv_decode.specs.declared.Inst.{Inst}
use Rattle.rv_decode.specs.Rows.{decode_of, decode16_of}
use Rattle.rv_step.specs.declared.vcpu.Effect.{Effect}
use Rattle.rv_step.specs.declared.vcpu.Effect.TheVariants as effect
use Rattle.rv_step.specs.Site.{Site, Outcome}
use Rattle.rv_step.specs.Executed.{did}
use Rattle.rv_step.specs.Kept.{IsUntouchedUnless}
use Rattle.rv_step.proofs.Untouched.{did_changes_on_next}
use Rattle.guest_board.specs.declared.fetch.Fetched.TheVariants.{Short, Long, Faults, Stops}
use Rattle.guest_board.specs.declared.rules.Rules.{Rules}
use Rattle.guest_board.specs.declared.slot.Slot.{Slot}
use Rattle.guest_board.specs.declared.step.Nesting.{Nesting}
use Rattle.guest_board.specs.declared.step.Nesting.TheVariants.{Stays}
use Rattle.guest_board.specs.declared.step.StepStart.{StepStart}
use Rattle.guest_board.specs.declared.step.StepStart.TheVariants.{Interrupt, Fetches}
use Rattle.guest_board.specs.Made.{Made, settled, nesting_of}
use Rattle.guest_board.specs.Step.{by_inst, made_by, place_of, word}
use Rattle.guest_board.specs.Board.{State, after_made, end_after, is_same_place, is_spent, site_of, slot_after, slot_of, slots_after}
use Rattle.guest_board.specs.Laws.{EndsChangeNothing, EndsOnly, counted}

-- what a step made that has ended the run
pub record IsIdle (s : Site) (m : Made) : Type 0 where
  pub vcpu : m.vcpu ≡ s.vcpu
  pub ram : m.ram ≡ s.ram
  pub devices : m.devices ≡ s.devices
  pub put : m.put ≡ None
  pub wrote : m.left.wrote ≡ None
  pub nesting : m.left.nesting ≡ Stays

abbrev IdleIfEnded : Site → Made → Type 0
IdleIfEnded s m = (e : End) → m.left.end ≡ Some e → IsIdle s m

settled-idle : (s : Site) (o : Outcome) (bits : ℕ) (nesting : Nesting) (x : Effect) → o.effect ≡ x → IsUntouchedUnless s o x → IdleIfEnded s (settled o bits nesting)
settled-idle s o bits nesting effect.Next is k e ended = absurd (cc (is, ended))
settled-idle s o bits nesting (effect.Wrote place) is k e ended = absurd (cc (is, ended))
settled-idle s o bits nesting (effect.Trap cause tval) is k e ended = absurd (cc (is, ended))
settled-idle s o bits nesting (effect.End x) is k e ended = rw is (record { vcpu = k.vcpu; ram = k.ram; devices = k.devices; put = k.put; wrote = refl; nesting = refl })

inst-idle : (inst : Option Inst) (bits len clock : ℕ) (s : Site) → IdleIfEnded s (by_inst inst bits len clock s)
unfolding by_inst
inst-idle None bits len clock s e ended = absurd (cc ended)
inst-idle (Some inst) bits len clock s e ended =
    settled-idle s (did inst len clock s) bits (nesting_of inst) (did inst len clock s).effect refl (did_changes_on_next inst len clock s) e ended

made-idle : (start : StepStart) (clock : ℕ) (s : Site) → IdleIfEnded s (made_by start clock s)
unfolding made_by
made-idle (Interrupt code) clock s e ended = absurd (cc ended)
made-idle (Fetches (Short text p h)) clock s e ended = inst-idle (decode16_of h) h 2 clock s e ended
made-idle (Fetches (Long text p h g)) clock s e ended = inst-idle (decode_of (word h g)) (word h g) 4 clock s e ended
made-idle (Fetches (Faults cause tval)) clock s e ended = absurd (cc ended)
made-idle (Fetches (Stops stop)) clock s e ended = record { vcpu = refl; ram = refl; devices = refl; put = refl; wrote = refl; nesting = refl }

-- an end that is not that of spent steps is the step's own
own-end : (rules : Rules) (slots : List Slot) (o : Option End) (e : End) → end_after rules slots o ≡ Some e → e ≢ Spent → o ≡ Some e
own-end rules slots (Some x) e is other = is
own-end rules slots None e is other =
    elim (is_spent rules slots) as (λ b. (if b then Some Spent else None) ≡ Some e → None ≡ Some e) [
      | true ↦ λ h. absurd (other (sym (cc h)))
      | false ↦ λ h. h
    ] is

-- a step that ends the run is no hook step
no-hook : (b : Bool) (o : Option End) (e : End) → o ≡ Some e → (b && is_none o) ≡ false
no-hook true o e is = rw is refl
no-hook false o e is = refl

slot-idle : (rules : Rules) (s : Site) (slot : Slot) (start : StepStart) (m : Made) (e : End) → m.left.end ≡ Some e → slot.vcpu ≡ s.vcpu → IsIdle s m → slot_after rules s slot start m ≡ counted slot
unfolding slot_after
slot-idle rules s slot start m e ended own k = rw (no-hook (is_same_place (place_of start) rules.hook) m.left.end e ended, k.vcpu, k.nesting, sym own) refl

slots-idle : (rules : Rules) (s : State) (i : ℕ) (start : StepStart) (m : Made) (e : End) → m.left.end ≡ Some e → IsIdle (site_of s i) m → slots_after rules s i start m ≡ slice_set s.slots i (counted (slot_of s i))
unfolding slot_after
slots-idle rules s i start m e ended k = rw (k.wrote, slot-idle rules (site_of s i) (slot_of s i) start m e ended refl k) refl

after-idle : (rules : Rules) (s : State) (i : ℕ) (start : StepStart) (m : Made) (e : End) → m.left.end ≡ Some e → IsIdle (site_of s i) m → EndsOnly i s (after_made rules s i start m)
unfolding after_made
after-idle rules s i start m e ended k = record {
  slots = slots-idle rules s i start m e ended k;
  ram = k.ram;
  devices = k.devices;
  console = rw k.put refl;
  clock = refl;
}

ended-by : (rules : Rules) (s : State) (i : ℕ) (start : StepStart) (m : Made) → (after_made rules s i start m).end ≡ end_after rules (slots_after rules s i start m) m.left.end
unfolding after_made
ended-by rules s i start m = refl

pub ends_only : EndsChangeNothing
ends_only rules s i start e is other =
    let m : Made = made_by start s.clock (site_of s i) in
    let own : m.left.end ≡ Some e = own-end rules (slots_after rules s i start m) m.left.end e (sym (ended-by rules s i start m) ∙ is) other in
    after-idle rules s i start m e own (made-idle start s.clock (site_of s i) e own)
