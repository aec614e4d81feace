use Rattle.std.proofs.Common.{◌≡◌, ℕ, List, length, ap, arith, ◌∙◌, ◌*◌, ◌≤◌, subst, sym}
use Rattle.std.specs.Prelude.{slice_index, slice_index_or}
use Rattle.std.specs.Vec.{vec_len}
use Rattle.guest_ram.specs.Ram.{Ram}
use Rattle.guest_board.specs.declared.rules.Rules.{Rules}
use Rattle.guest_board.specs.declared.slot.Slot.{Slot}
use Rattle.guest_board.specs.Board.{no_slot}
use Rattle.guest_board.specs.Housed.{left_total}
use Rattle.guest_board.proofs.Started.{all_left, no_depth, no_stamp, few_slots}
use Rattle.guest_board.proofs.board.Board.open.Goals as goal

pub invariant_of-result : goal.invariant_of-result
invariant_of-result c =
    let entry : ℕ = c.args.image.now.entry in
    let name = c.args.setup.now.start in
    let vcpus : ℕ = c.args.setup.now.vcpus in
    let slots : length c.in_ok-slots.slots.items ≡ vcpus = ap length c.in_ok-slots.ensures ∙ few_slots entry name vcpus in
    let steps : c.rules_of.result.steps ≡ c.args.setup.now.steps = ap (λ (r : Rules). r.steps) c.rules_of.ensures in
    let left : left_total c.rules_of.result.steps c.in_ok-slots.slots.items ≡ vcpus * c.args.setup.now.steps =
    ap (λ n. left_total n c.in_ok-slots.slots.items) steps ∙ ap (λ (xs : List Slot). left_total c.args.setup.now.steps xs) c.in_ok-slots.ensures ∙ all_left c.args.setup.now.steps entry name vcpus in
    record {
      eight = omega (arith, slots, c.requires.setup.setup.eight);
      few = omega (arith, left, c.in_ok-schedule.ensures.len, c.requires.setup.setup.steps_most);
      schedule_room = omega (arith, left, c.in_ok-schedule.ensures.len, c.in_ok-schedule.ensures.exact);
      console_room = omega (arith, left, c.in_ok-console.ensures.len, c.in_ok-console.ensures.exact);
      depths = λ k. subst (λ (xs : List Slot). (slice_index_or xs k no_slot).depth ≤ vec_len c.in_ok-schedule.schedule) (sym c.in_ok-slots.ensures) (no_depth entry name vcpus k (vec_len c.in_ok-schedule.schedule));
      stamps = λ k. subst (λ (r : Ram). slice_index r.stamps k ≤ vec_len c.in_ok-schedule.schedule) (sym c.in_ok-ram.ensures) (no_stamp c.args.image.now c.args.setup.now.ram k (vec_len c.in_ok-schedule.schedule));
      caches = c.in_ok-caches.ensures.many ∙ sym slots;
      fit = c.in_ok-caches.ensures.fit c.in_ok-ram.ram;
    }
