use Rattle.std.proofs.Common.{arith}
use Rattle.std.proofs.lemmas.Result.{err_from_is_err_and}
use Rattle.std.specs.Int.{w64}
use Rattle.trace_file.specs.Form.{number}
use Rattle.trace_file.proofs.Loops.{list_on, list_ends, list_done}
use Rattle.trace_file.proofs.reading.chain_at.Goals as goal

pub returns-in_err-place : goal.returns-in_err-place
returns-in_err-place c =
    let p = err_from_is_err_and c.from_residual.result c.from_residual.ensures.1 in
    rw (p.1, p.2) (list_ends {S = Unit {0}} (λ _ _. number w64) (λ _ _. tt) c.in_err-place.field-0.0 c.places.chain.items c.args.places c.places._k tt c.places.rest.now _ c.places-test.true c.in_err-place.ensures c.places.invariant.told)

pub places-preserved : goal.places-preserved
places-preserved c = record {
  len = omega (arith, c.push.ensures.len, c.places.invariant.len);
  told = rw c.push.ensures.items (list_on {S = Unit {0}} (λ _ _. number w64) (λ _ _. tt) c.places.chain.items c.args.places c.places._k tt c.places.rest.now c.in_ok-place.place c.in_ok-place.after.now _ c.places-test.true c.in_ok-place.ensures c.places.invariant.told);
}

pub returns : goal.returns
returns c = list_done {S = Unit {0}} (λ _ _. number w64) (λ _ _. tt) c.places.chain.items c.args.places c.places._k tt c.places.rest.now _ c.places-test.false c.places.invariant.told
