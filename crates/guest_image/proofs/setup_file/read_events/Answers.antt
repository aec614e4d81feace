use Rattle.std.proofs.Common.{Some, option_and_then, ap, sym, ◌∙◌}
use Rattle.std.proofs.lemmas.Result.{err_from_is_err_and}
use Rattle.json_fields.specs.Fields.{each_of}
use Rattle.json_fields.proofs.EachOf.{each_of-next, each_of-stop}
use Rattle.guest_image.specs.Asked.{event_of, events_of}
use Rattle.guest_image.proofs.setup_file.read_events.Goals as goal

pub returns-in_err-event-clause-err : goal.returns-in_err-event-clause-err
unfolding events_of
returns-in_err-event-clause-err c =
    let p = err_from_is_err_and c.from_residual-in_err-event.result c.from_residual-in_err-event.ensures.1 in
    rw (p.1, p.2) (λ misfit.
    let missing = each_of-stop event_of c.in_ok-items.items.now c.loop-item.item-index c.item-item.result c.loop-item-test.true c.item-item.is (sym c.read_event.ensures ∙ c.in_err-event.ensures.ok_part) in
    ap (option_and_then (each_of event_of)) (sym (rw c.in_ok-items.ensures.ok_part at c.array.ensures)) ∙ missing)

pub loop-item-preserved : goal.loop-item-preserved
loop-item-preserved c =
    each_of-next event_of c.in_ok-items.items.now c.loop-item.item-index c.item-item.result c.loop-item.events c.in_ok-event.event c.loop-item-test.true c.item-item.is c.loop-item.invariant (sym c.read_event.ensures ∙ c.in_ok-event.ensures.ok_part)
    ∙ ap Some (sym c.in_ok-push.ensures.ok)
