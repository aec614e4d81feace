use Rattle.std.proofs.lemmas.Result.{err_from_is_err_and}
use Rattle.trace_file.specs.Trace.{digest_form}
use Rattle.trace_file.proofs.Loops.{list_on, list_ends, list_done}
use Rattle.trace_file.proofs.reading.some_pages.Goals as goal

pub returns-in_err-digest : goal.returns-in_err-digest
returns-in_err-digest c =
    let p = err_from_is_err_and c.from_residual.result c.from_residual.ensures.1 in
    rw (p.1, p.2) (list_ends {S = Unit {0}} (λ _ _. digest_form) (λ _ _. tt) c.in_err-digest.field-0.0 c.pages.pages.items c.args.count c.pages._k tt c.pages.rest.now _ c.pages-test.true c.in_err-digest.ensures c.pages.invariant)

pub pages-preserved : goal.pages-preserved
pages-preserved c = rw c.in_ok-push.ensures.items (list_on {S = Unit {0}} (λ _ _. digest_form) (λ _ _. tt) c.pages.pages.items c.args.count c.pages._k tt c.pages.rest.now c.in_ok-digest.digest c.in_ok-digest.after.now _ c.pages-test.true c.in_ok-digest.ensures c.pages.invariant)

pub returns : goal.returns
returns c = list_done {S = Unit {0}} (λ _ _. digest_form) (λ _ _. tt) c.pages.pages.items c.args.count c.pages._k tt c.pages.rest.now _ c.pages-test.false c.pages.invariant
