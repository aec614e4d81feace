use Rattle.std.proofs.Common.{◌∙◌, ap, sym, subst, List}
use Rattle.std.specs.Prelude.{IsSome}
use Rattle.run_evidence.specs.Config.{Config, IsConfig}
use Rattle.guest_board.specs.Board.{Seat}
use Rattle.trace_file.specs.Trace.{told_of_trace}
use Rattle.view_store.specs.Paged.{PagedView}
use Rattle.run_trace.specs.Told.{IsToldBy}
use Rattle.vcpu_core.specs.First.{first_world}
use Rattle.guest_runs.specs.Engine.{RunsOut}
use Rattle.guest_runs.proofs.Ended.{idle-ended}
use Rattle.guest_runs.proofs.Drives.{has-ended, is-driven}
use Rattle.guest_runs.proofs.driven.drive.Goals as goal

pub trace_of_run-requires : goal.trace_of_run-requires
trace_of_run-requires c =
    let config : Config = record { image = c.args.image.now; setup = c.args.setup.now; views = c.args.views.now } in
    let ok : IsConfig config = record { image = c.requires.image; setup = c.requires.setup; views = c.requires.views } in
    let r : RunsOut c.args.script.now c.args.setup.now.vcpus (first_world config) c.run_out.new.core
    = subst (λ w. RunsOut c.args.script.now c.args.setup.now.vcpus w c.run_out.new.core) c.in_ok-core.ensures c.run_out.ensures in
    let goes_on = idle-ended c.every_order_is_sound.ensures c.idle_runs_have_ended.ensures c.steps_count_one.ensures.vcpus in
    let ended : IsSome c.run_out.new.core.board.state.end = has-ended c.every_order_is_sound.ensures goes_on c.runs_have_sound_traces.ensures c.traces_of_runs_are_lawful.ensures config ok c.args.script.now c.run_out.new.core r in
    subst (λ (b : Seat). IsSome b.state.end) (sym c.into_parts-board.ensures.board) ended

pub returns : goal.returns
returns c =
    let config : Config = record { image = c.args.image.now; setup = c.args.setup.now; views = c.args.views.now } in
    let ok : IsConfig config = record { image = c.requires.image; setup = c.requires.setup; views = c.requires.views } in
    let r : RunsOut c.args.script.now c.args.setup.now.vcpus (first_world config) c.run_out.new.core
    = subst (λ w. RunsOut c.args.script.now c.args.setup.now.vcpus w c.run_out.new.core) c.in_ok-core.ensures c.run_out.ensures in
    let goes_on = idle-ended c.every_order_is_sound.ensures c.idle_runs_have_ended.ensures c.steps_count_one.ensures.vcpus in
    let seated : IsToldBy c.run_out.new.core.board c.deref.result.now (told_of_trace c.in_ok-trace.trace)
    = subst (λ (b : Seat). IsToldBy b c.deref.result.now (told_of_trace c.in_ok-trace.trace)) c.into_parts-board.ensures.board c.in_ok-trace.ensures.told in
    let tells : IsToldBy c.run_out.new.core.board c.run_out.new.core.paged_views (told_of_trace c.in_ok-trace.trace)
    = subst (λ (vs : List PagedView). IsToldBy c.run_out.new.core.board vs (told_of_trace c.in_ok-trace.trace)) (c.deref.ensures.value ∙ c.into_parts-board.ensures.views) seated in
    is-driven c.every_order_is_sound.ensures goes_on c.runs_have_sound_traces.ensures c.traces_of_runs_are_lawful.ensures config ok c.args.script.now c.run_out.new.core r
    (told_of_trace c.in_ok-trace.trace) c.in_ok-console.console.items tells c.in_ok-trace.ensures.ranges
    (c.in_ok-console.ensures.items ∙ c.console.ensures ∙ ap (λ (b : Seat). b.state.console) c.into_parts-board.ensures.board)
