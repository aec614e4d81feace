use Rattle.std.proofs.Common.{Some, ap, sym, ◌∙◌}
use Rattle.std.proofs.lemmas.Result.{err_from_is_err_and}
use Rattle.json_fields.proofs.EachOf.{each_of-next, each_of-stop}
use Rattle.view_file.specs.Written.{written_start}
use Rattle.view_file.proofs.written.each_start.Goals as goal

pub returns-in_err-at-clause-err : goal.returns-in_err-at-clause-err
returns-in_err-at-clause-err c =
    let p = err_from_is_err_and c.from_residual.result c.from_residual.ensures.1 in
    rw (p.1, p.2) (λ misfit.
    let missing = each_of-stop (written_start c.args.version) c.args.items.now c.loop-item.item-index c.item-item.result c.loop-item-test.true c.item-item.is (sym c.start.ensures ∙ c.in_err-at.ensures.ok_part) in
    missing)

pub loop-item-preserved : goal.loop-item-preserved
loop-item-preserved c =
    each_of-next (written_start c.args.version) c.args.items.now c.loop-item.item-index c.item-item.result c.loop-item.found c.in_ok-at.at c.loop-item-test.true c.item-item.is c.loop-item.invariant (sym c.start.ensures ∙ c.in_ok-at.ensures.ok_part)
    ∙ ap Some (sym c.in_ok-push.ensures.ok)
