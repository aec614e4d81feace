use Rattle.std.proofs.Common.{Some, option_and_then, ap, sym, ◌∙◌}
use Rattle.std.proofs.lemmas.Result.{err_from_is_err_and}
use Rattle.json_fields.specs.Fields.{each_of}
use Rattle.json_fields.proofs.EachOf.{each_of-next, each_of-stop}
use Rattle.guest_image.specs.Plain.{plain_segment, segments_of}
use Rattle.guest_image.proofs.plain.read_segments.Goals as goal

pub returns-in_err-segment-clause-err : goal.returns-in_err-segment-clause-err
unfolding segments_of
returns-in_err-segment-clause-err c =
    let p = err_from_is_err_and c.from_residual-in_err-segment.result c.from_residual-in_err-segment.ensures.1 in
    rw (p.1, p.2) (λ misfit.
    let missing = each_of-stop plain_segment c.in_ok-items.items.now c.loop-item.item-index c.item-item.result c.loop-item-test.true c.item-item.is (c.in_err-segment.ensures.err misfit) in
    ap (option_and_then (each_of plain_segment)) (sym (rw c.in_ok-items.ensures.ok_part at c.array.ensures)) ∙ missing)

pub loop-item-preserved : goal.loop-item-preserved
loop-item-preserved c =
    each_of-next plain_segment c.in_ok-items.items.now c.loop-item.item-index c.item-item.result c.loop-item.segments.items c.in_ok-segment.segment c.loop-item-test.true c.item-item.is c.loop-item.invariant c.in_ok-segment.ensures.ok
    ∙ ap Some (sym c.in_ok-push.ensures.items)
