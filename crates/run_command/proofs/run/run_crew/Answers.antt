use Rattle.std.proofs.Common.{◌∙◌, subst, List}
use Rattle.run_evidence.specs.Config.{Config, IsConfig}
use Rattle.trace_file.specs.Trace.{told_of_trace}
use Rattle.view_store.specs.Paged.{PagedView}
use Rattle.run_trace.specs.Told.{IsToldBy}
use Rattle.vcpu_crew.specs.Crew.{IsWholeRun}
use Rattle.run_command.proofs.Traced.{is-crew-run}
use Rattle.run_command.proofs.run.run_crew.Goals as goal

pub returns-clause-run : goal.returns-clause-run
returns-clause-run g c =
    let config : Config = record { image = c.args.image.now; setup = c.args.setup.now; views = c.args.views } in
    let ok : IsConfig config = record { image = c.requires.image; setup = c.requires.setup; views = c.requires.views } in
    let ran = c.crew_run-ran.result in
    let whole : IsWholeRun config ran.board ran.views.items = subst (λ k. IsWholeRun k ran.board ran.views.items) c.in_ok-rig.ensures.config c.crew_run-ran.ensures.run in
    let tells : IsToldBy ran.board ran.views.items (told_of_trace c.in_ok-trace.trace)
    = subst (λ (vs : List PagedView). IsToldBy ran.board vs (told_of_trace c.in_ok-trace.trace)) c.deref.ensures.value c.in_ok-trace.ensures.told in
    is-crew-run config ok ran.board ran.views.items whole c.runs_have_sound_traces.ensures c.traces_of_runs_are_lawful.ensures
    (told_of_trace c.in_ok-trace.trace) c.in_ok-console.console.items tells c.in_ok-trace.ensures.ranges (c.in_ok-console.ensures.items ∙ c.console.ensures)
