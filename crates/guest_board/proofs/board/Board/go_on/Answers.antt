use Rattle.std.proofs.Common.{◌≡◌, ◌≤◌, ◌∙◌, ◌+◌, List, ap, sym, subst, arith, length, length-set}
use Rattle.std.specs.Prelude.{slice_index_or}
use Rattle.std.specs.Vec.{vec_len, with_item, with_items}
use Rattle.guest_board.specs.declared.slot.Slot.{Slot}
use Rattle.guest_board.specs.Board.{Seat, no_slot}
use Rattle.guest_board.specs.Housed.{IsHoused, left_total}
use Rattle.guest_board.proofs.Caches.{all_fit_after, refilled}
use Rattle.guest_board.proofs.board.Board.go_on.Goals as goal

pub invariant_of-self : goal.invariant_of-self
invariant_of-self g c =
    let clock : c.clock-clock.result ≡ length c.self.inside.schedule.items = c.clock-clock.ensures.schedule ∙ ap (λ (b : Seat). length b.schedule) (sym c.self.view_is) in
    let same : length c.carry_at-done.new.slots ≡ length c.self.inside.slots.items = c.carry_at-done.ensures.len ∙ ap (λ (slots : List Slot). length slots) c.deref_mut.ensures.value in
    let slots : (with_items c.self.inside.slots c.carry_at-done.new.slots).items ≡ c.carry_at-done.new.slots = refilled c.self.inside.slots.len c.self.inside.slots.items c.carry_at-done.new.slots (same ∙ sym c.self.inside.slots.ok.0) in
    let many : length (with_items c.self.inside.slots c.carry_at-done.new.slots).items ≡ length c.self.inside.slots.items = ap (λ (slots : List Slot). length slots) slots ∙ same in
    let less : left_total c.self.inside.rules.steps (with_items c.self.inside.slots c.carry_at-done.new.slots).items + 1 ≡ left_total c.self.inside.rules.steps c.self.inside.slots.items =
    ap (λ (slots : List Slot). left_total c.self.inside.rules.steps slots + 1) slots ∙ c.carry_at-done.ensures.one_less ∙ ap (λ (slots : List Slot). left_total c.self.inside.rules.steps slots) c.deref_mut.ensures.value in
    let after : IsHoused (record {
      rules = c.self.inside.rules;
      slots = with_items c.self.inside.slots c.carry_at-done.new.slots;
      ram = c.carry_at-done.new.ram;
      caches = with_item c.self.inside.caches c.i.inside.0 c.carry_at-done.new.cache;
      feed = c.carry_at-done.new.feed;
      console = c.say.new.console;
      schedule = c.push_vcpu.new.schedule;
      end = c.note_end.new.noted;
    }) =
    record {
      eight = omega (arith, many, c.self.invariant.eight);
      few = omega (arith, less, c.push_vcpu.ensures.len, c.self.invariant.few);
      schedule_room = omega (arith, less, c.push_vcpu.ensures.len, c.push_vcpu.ensures.room, c.self.invariant.schedule_room);
      console_room = omega (arith, less, c.say.ensures.len, c.say.ensures.room, c.self.invariant.console_room);
      depths = λ k.
          subst (λ (slots : List Slot). (slice_index_or slots k no_slot).depth ≤ vec_len c.push_vcpu.new.schedule) (sym slots)
          (omega (arith, c.carry_at-done.ensures.depths k, clock, c.push_vcpu.ensures.len, c.self.inside.schedule.ok.0));
      stamps = λ k. omega (arith, c.carry_at-done.ensures.keeps.stamp_most k, c.self.invariant.stamps k, c.push_vcpu.ensures.len);
      caches = length-set c.self.inside.caches.items c.i.inside.0 c.carry_at-done.new.cache ∙ c.self.invariant.caches ∙ sym many;
      fit =
          all_fit_after c.self.inside.ram c.carry_at-done.new.ram c.self.inside.caches.items c.i.inside.0 c.carry_at-done.new.cache c.self.invariant.fit
          c.carry_at-done.ensures.others c.carry_at-done.ensures.fits;
    }
    in after
