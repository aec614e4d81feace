use Rattle.std.proofs.Common.{sym, ◌∙◌}
use Rattle.guest_image.proofs.Setups.{events_for-few}
use Rattle.guest_image.proofs.limits.accept_setup.Goals as goal

pub out_of_order-requires : goal.out_of_order-requires
out_of_order-requires c =
    let few = events_for-few c.args.asked.vcpus c.as_slice.result.now c.in-Some.events (sym c.in_ok-events.ensures ∙ c.in-Some.is) in
    rw c.as_slice-3.ensures few
