use Rattle.std.proofs.Common.{◌≡◌, ◌+◌, refl, arith}
use Rattle.std.proofs.lemmas.Result.{err_from_is_err_and}
use Rattle.std.proofs.Common.{ℕ, List, Ok, take, ap, ◌∙◌}
use Rattle.std.proofs.lemmas.Grind.{take-set_at}
use Rattle.std.proofs.lemmas.List.{take_all, length-set}
use Rattle.trace_file.specs.States.{value_form, values_form}
use Rattle.trace_file.proofs.Loops.{front_none, list_on, list_ends, list_done}
use Rattle.trace_file.proofs.reading.values_at.Goals as goal

pub values-init : goal.values-init
unfolding values_form
values-init c = record { len = refl; told = front_none (values_form.read c.args.bytes.now) }

pub returns-in_err-value : goal.returns-in_err-value
unfolding values_form
returns-in_err-value c =
    let p = err_from_is_err_and c.from_residual.result c.from_residual.ensures.1 in
    rw (p.1, p.2) (list_ends {S = Unit {0}} value_form (λ s _. s) c.in_err-value.field-0.0 (take c.values.k c.values.values) 44 c.values.k tt c.values.rest.now _ c.values-test.true c.in_err-value.ensures c.values.invariant.told)

pub values-preserved : goal.values-preserved
values-preserved c = record {
  len = length-set c.values.values c.values.k c.in_ok-value.value ∙ c.values.invariant.len;
  told = rw (take-set_at c.values.values c.values.k (c.values.k + 1) c.in_ok-value.value refl (omega (arith, c.values.invariant.len))) (list_on {S = Unit {0}} value_form (λ s _. s) (take c.values.k c.values.values) 44 c.values.k tt c.values.rest.now c.in_ok-value.value c.in_ok-value.after.now _ c.values-test.true c.in_ok-value.ensures c.values.invariant.told);
}

pub returns : goal.returns
unfolding values_form
returns c =
    let all : take c.values.k c.values.values ≡ c.values.values = take_all c.values.k c.values.values (omega (arith, c.values.invariant.len)) in
    list_done {S = Unit {0}} value_form (λ s _. s) (take c.values.k c.values.values) 44 c.values.k tt c.values.rest.now (values_form.read c.args.bytes.now) c.values-test.false c.values.invariant.told
    ∙ ap (λ (vs : List ℕ). Ok (vs, c.values.rest.now)) all
