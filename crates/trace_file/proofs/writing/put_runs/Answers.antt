use Rattle.std.proofs.Common.{◌≡◌, ◌∙◌, ℕ, [], get_or, sym, subst, arith, append-nil, refl}
use Rattle.trace_file.specs.Runs.{runs_from}
use Rattle.trace_file.proofs.RunLaws.{written-same, written-other, written-end}
use Rattle.trace_file.proofs.writing.put_runs.Goals.{then-last-next, else-last-next+in_ok-put_run}
use Rattle.trace_file.proofs.writing.put_runs.Goals as goal

pub rest-init : goal.rest-init
rest-init c = record { few = omega (arith); written = record { runs = []; written = sym (append-nil _); told = refl } }

pub rest-preserved : goal.rest-preserved
rest-preserved c = elim c.if-last-next.branch [
  | then-last-next w ↦ record {
    few = rw w.last-is (omega (arith, c.rest.invariant.few));
    written = rw (w.out-is, w.last-is) (written-same _ _ _ c.args.rest.now c.rest.last.vcpu c.rest.last.steps c.rest.vcpu-index c.vcpu-item.result c.rest-test.true c.vcpu-item.is (w.if-last-next.true ∙ c.vcpu.view_is) c.rest.invariant.written);
  }
  | else-last-next+in_ok-put_run w ↦ record {
    few = rw w.last-is (omega arith);
    written = rw (w.out-is, w.last-is) (written-other _ _ _ _ c.args.rest.now c.rest.last.vcpu c.rest.last.steps c.rest.vcpu-index c.vcpu.inside.0 c.rest-test.true
        (let P : ℕ → Type 0 = λ x. x ≡ get_or c.args.rest.now c.rest.vcpu-index x in subst P (sym c.vcpu.view_is) c.vcpu-item.is) w.if-last-next.false w.in_ok-put_run.ensures c.rest.invariant.written);
  }
]

pub returns : goal.returns
returns c =
    written-end (runs_from c.args.first 1 c.args.rest.now) _ _ _ c.args.rest.now c.rest.last.vcpu c.rest.last.steps c.rest.vcpu-index c.rest-test.false c.in_ok-put_run-2.ensures c.rest.invariant.written
