use Rattle.std.proofs.Common.{Some, option_map, option_and_then, ap, sym, ◌∙◌}
use Rattle.std.proofs.lemmas.Result.{err_from_is_err_and}
use Rattle.json_fields.specs.Fields.{each_of}
use Rattle.json_fields.proofs.EachOf.{each_of-next_filtered, each_of-stop}
use Rattle.std.specs.List.{filter}
use Rattle.guest_image.specs.Plain.{plain_segment, segments_of, is_filled, plain_parts}
use Rattle.guest_image.proofs.plain.read_parts.Goals as goal

pub returns-in_err-segment-clause-err : goal.returns-in_err-segment-clause-err
unfolding plain_parts segments_of
returns-in_err-segment-clause-err c =
    let p = err_from_is_err_and c.from_residual-in_err-segment.result c.from_residual-in_err-segment.ensures.1 in
    rw (p.1, p.2) (λ misfit.
    let missing = each_of-stop plain_segment c.in_ok-items.items.now c.loop-item.item-index c.item-item.result c.loop-item-test.true c.item-item.is (c.in_err-segment.ensures.err misfit) in
    ap (λ o. option_map (filter is_filled) (option_and_then (each_of plain_segment) o)) (sym (rw c.in_ok-items.ensures.ok_part at c.array.ensures)) ∙ ap (option_map (filter is_filled)) missing)

pub loop-item-preserved : goal.loop-item-preserved
loop-item-preserved c =
    each_of-next_filtered plain_segment is_filled c.in_ok-items.items.now c.loop-item.item-index c.item-item.result c.loop-item.parts.items c.in_ok-segment.segment c.loop-item-test.true c.item-item.is c.loop-item.invariant c.in_ok-segment.ensures.ok
    ∙ ap Some (sym c.in_ok-push_filled.ensures)
