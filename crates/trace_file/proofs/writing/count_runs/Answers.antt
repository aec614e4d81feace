use Rattle.std.proofs.Common.{◌≡◌, ◌∙◌, ℕ, [], get_or, sym, subst, arith, refl}
use Rattle.trace_file.specs.Runs.{runs_from}
use Rattle.trace_file.proofs.RunLaws.{counted-same, counted-other, counted-end}
use Rattle.trace_file.proofs.writing.count_runs.Goals.{then-last-next, else-last-next}
use Rattle.trace_file.proofs.writing.count_runs.Goals as goal

pub rest-init : goal.rest-init
rest-init c = record { few = omega (arith); counted = record { runs = []; steps = 1; behind = refl; told = refl } }

pub rest-preserved : goal.rest-preserved
rest-preserved c = elim c.if-last-next.branch [
  | then-last-next w ↦ record {
    few = rw w.runs-is (omega (arith, c.rest.invariant.few));
    counted = rw (w.runs-is, w.last-is) (counted-other _ c.args.rest.now c.rest.last c.rest.runs c.rest.vcpu-index c.vcpu.inside.0 c.rest-test.true
        (let P : ℕ → Type 0 = λ x. x ≡ get_or c.args.rest.now c.rest.vcpu-index x in subst P (sym c.vcpu.view_is) c.vcpu-item.is) w.if-last-next.true c.rest.invariant.counted);
  }
  | else-last-next w ↦ record {
    few = rw w.runs-is (omega (arith, c.rest.invariant.few));
    counted = rw (w.runs-is, w.last-is) (counted-same _ c.args.rest.now c.rest.last c.rest.runs c.rest.vcpu-index c.vcpu-item.result c.rest-test.true c.vcpu-item.is (w.if-last-next.false ∙ c.vcpu.view_is) c.rest.invariant.counted);
  }
]

pub returns : goal.returns
returns c = counted-end (runs_from c.args.first 1 c.args.rest.now) c.args.rest.now c.rest.last c.rest.runs c.rest.vcpu-index c.rest-test.false c.rest.invariant.counted
