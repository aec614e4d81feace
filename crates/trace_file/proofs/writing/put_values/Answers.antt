use Rattle.std.proofs.Common.{◌++◌, ◌+◌, ◌∙◌, ap, refl, arith, List, ℕ, drop}
use Rattle.trace_file.specs.Form.{spell_items}
use Rattle.trace_file.specs.States.{value_form, values_form}
use Rattle.trace_file.proofs.Texts.{value-on, value-end}
use Rattle.trace_file.proofs.writing.put_values.Goals as goal

pub values-init : goal.values-init
unfolding values_form
values-init c = refl

pub values-preserved : goal.values-preserved
unfolding values_form
values-preserved c = ap (λ (o : List ℕ). o ++ spell_items value_form (λ s _. s) (c.values.k + 1) tt (drop (c.values.k + 1) c.args.values.now)) c.in_ok-put_value.ensures ∙ value-on c.values.out.items c.args.values.now _ c.values.k (omega (arith, c.fits-values, c.told-values)) c.values.invariant

pub returns : goal.returns
unfolding values_form
returns c = value-end c.values.out.items c.args.values.now _ c.values.k (omega (arith, c.fits-values, c.told-values)) c.values.invariant
