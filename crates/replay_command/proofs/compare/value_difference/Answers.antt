use Rattle.std.proofs.Common.{◌≡◌, ◌∙◌, ap, rules, List, ℕ, Some, None}
use Rattle.std.specs.Prelude.{slice_index}
use Rattle.trace_file.specs.Values.{values_of}
use Rattle.replay_command.specs.declared.comparison.Comparison.TheVariants.{Value}
use Rattle.replay_command.proofs.Values.{value-found, value-none}
use Rattle.replay_command.proofs.compare.value_difference.Goals as goal

pub returns-in_err-number-clause-value : goal.returns-in_err-number-clause-value
returns-in_err-number-clause-value c =
    let none : c.from_residual.result ≡ None = search rules in
    none ∙ value-none c.args.vcpu (values_of c.args.left.now) (values_of c.args.right.now) c.in_err-number.ensures.value

pub returns-clause-value : goal.returns-clause-value
returns-clause-value c =
    let k : ℕ = c.in_ok-number.number in
    ap (λ (xs : List ℕ). Some (Value c.args.vcpu k (slice_index xs k) (slice_index c.values_of_state-2.result k))) c.values_of_state.ensures
    ∙ ap (λ (ys : List ℕ). Some (Value c.args.vcpu k (slice_index (values_of c.args.left.now) k) (slice_index ys k))) c.values_of_state-2.ensures
    ∙ value-found c.args.vcpu k (values_of c.args.left.now) (values_of c.args.right.now) c.in_ok-number.ensures.value
