use Rattle.std.proofs.Common.{get_or, Some, ap, sym, ◌∙◌, nat_lt, length}
use Rattle.guest_image.specs.Limits.{event_for, events_for}
use Rattle.guest_input.specs.declared.limits.TheConstants.{EVENTS_MOST}
use Rattle.guest_input.specs.declared.setup.Event.{Event}
use Rattle.guest_image.specs.declared.setup_file.AskedEvent.{AskedEvent}
use Rattle.guest_image.specs.declared.setup_file.AskedWhat.TheVariants as asked
use Rattle.guest_image.proofs.Setups.{event_for-some, event_for-none, each_of-next, each_of-gap, none_either}
use Rattle.guest_image.proofs.setup.events_for.Goals as goal

pub loop-event-preserved : goal.loop-event-preserved
loop-event-preserved c =
    let d : AskedEvent = record { at = 0; what = asked.Key 0 } in
    let item = get_or c.args.asked.now c.loop-event.event-index d in
    let event : Event = record { at = item.at; what = c.in-Some.what } in
    each_of-next (event_for c.args.vcpus) c.args.asked.now c.loop-event.event-index d c.loop-event.events event c.loop-event-test.true c.loop-event.invariant (event_for-some c.args.vcpus item c.in-Some.what (sym c.in-Some.ensures))
    ∙ ap Some (sym c.in_ok-push.ensures.ok)

pub returns-in_default : goal.returns-in_default
unfolding events_for
returns-in_default c =
    let d : AskedEvent = record { at = 0; what = asked.Key 0 } in
    let item = get_or c.args.asked.now c.loop-event.event-index d in
    let gap = each_of-gap (event_for c.args.vcpus) c.args.asked.now c.loop-event.event-index d c.loop-event-test.true (event_for-none c.args.vcpus item (sym c.in_default.ensures)) in
    sym (none_either (nat_lt EVENTS_MOST (length c.args.asked.now)) _ gap)
