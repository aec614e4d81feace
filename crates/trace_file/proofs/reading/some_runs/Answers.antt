use Rattle.std.proofs.Common.{length, replicate, refl, ap, arith}
use Rattle.std.proofs.lemmas.Result.{err_from_is_err_and}
use Rattle.std.proofs.lemmas.List.{length-append, length-replicate}
use Rattle.trace_file.specs.Runs.{run_form, after_run, schedule_of}
use Rattle.trace_file.proofs.Loops.{goes_on, ends, is_done}
use Rattle.trace_file.proofs.reading.some_runs.Goals as goal

pub returns-in_err-run-clause-gives : goal.returns-in_err-run-clause-gives
unfolding schedule_of
returns-in_err-run-clause-gives c =
    let p = err_from_is_err_and c.from_residual.result c.from_residual.ensures.1 in
    rw (p.1, p.2) (ends (run_form c.args.vcpus) after_run schedule_of (λ r. replicate r.steps r.vcpu) refl (λ r rs. refl) c.in_err-run.field-0.0 c.runs.schedule.items c.args.count c.runs.k c.runs.before c.runs.rest.now _ c.runs-test.true c.in_err-run.ensures.gives c.runs.invariant.told)

pub runs-preserved : goal.runs-preserved
unfolding schedule_of
runs-preserved c = record {
  len = omega (arith, ap length c.in_ok-add_run.ensures, length-append c.runs.schedule.items (replicate c.in_ok-run.run'.steps c.in_ok-run.run'.vcpu), length-replicate c.in_ok-run.run'.steps c.in_ok-run.run'.vcpu, c.runs.invariant.len);
  few = c.in_ok-run.ensures.few;
  told = rw c.in_ok-add_run.ensures (goes_on (run_form c.args.vcpus) after_run schedule_of (λ r. replicate r.steps r.vcpu) refl (λ r rs. refl) c.runs.schedule.items c.args.count c.runs.k c.runs.before c.runs.rest.now c.in_ok-run.run' c.in_ok-run.after.now _ c.runs-test.true c.in_ok-run.ensures.gives c.runs.invariant.told);
}

pub returns-clause-gives : goal.returns-clause-gives
unfolding schedule_of
returns-clause-gives c = is_done (run_form c.args.vcpus) after_run schedule_of (λ r. replicate r.steps r.vcpu) refl (λ r rs. refl) c.runs.schedule.items c.args.count c.runs.k c.runs.before c.runs.rest.now _ c.runs-test.false c.runs.invariant.told
