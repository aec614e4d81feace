use Rattle.std.proofs.Common.{◌≡◌, ◌∙◌, [], ap, sym, subst, refl}
use Rattle.std.specs.Prelude.{IsSome}
use Rattle.view_file.specs.Named.{view_named}
use Rattle.run_evidence.specs.Config.{Config, IsConfig}
use Rattle.vcpu_core.specs.First.{first_world}
use Rattle.vcpu_core.specs.Missed.{first_view}
use Rattle.guest_runs.specs.Alone.{IsRunOf}
use Rattle.guest_runs.specs.Engine.{RunsOut}
use Rattle.guest_runs.proofs.Ended.{idle-ended}
use Rattle.guest_runs.proofs.Lone.{view-within, entries-printable, ended, lone-run, alone_steps}
use Rattle.guest_runs.proofs.alone.run_alone.Goals as goal

pub log-requires : goal.log-requires
log-requires c =
    let config : Config = record { image = c.args.image.now; setup = c.args.setup.now; views = c.args.views.now } in
    let ok : IsConfig config = record { image = c.requires.image; setup = c.requires.setup; views = c.requires.views } in
    let r : RunsOut [] c.args.setup.now.vcpus (first_world config) c.run_out.new.core = subst (λ w. RunsOut [] c.args.setup.now.vcpus w c.run_out.new.core) c.in_ok-core.ensures c.run_out.ensures in
    let view : c.choose-view.result ≡ first_view config = c.choose-view.ensures.value ∙ ap (λ name. view_named c.args.views.now name) c.as_ref.ensures.value in
    rw view (view-within c.every_order_is_sound.ensures (idle-ended c.every_order_is_sound.ensures c.idle_runs_have_ended.ensures c.steps_count_one.ensures.vcpus) c.without_hook_first_view_logs_all_misses.ensures config ok c.requires.alone c.requires.unhooked c.run_out.new.core r)

pub log_text-requires-clause-entries : goal.log_text-requires-clause-entries
log_text-requires-clause-entries c =
    let config : Config = record { image = c.args.image.now; setup = c.args.setup.now; views = c.args.views.now } in
    let ok : IsConfig config = record { image = c.requires.image; setup = c.requires.setup; views = c.requires.views } in
    let r : RunsOut [] c.args.setup.now.vcpus (first_world config) c.run_out.new.core = subst (λ w. RunsOut [] c.args.setup.now.vcpus w c.run_out.new.core) c.in_ok-core.ensures c.run_out.ensures in
    let view : c.choose-view.result ≡ first_view config = c.choose-view.ensures.value ∙ ap (λ name. view_named c.args.views.now name) c.as_ref.ensures.value in
    rw (c.log.ensures, view, c.requires.table) (entries-printable c.every_order_is_sound.ensures (idle-ended c.every_order_is_sound.ensures c.idle_runs_have_ended.ensures c.steps_count_one.ensures.vcpus) c.without_hook_first_view_logs_all_misses.ensures config ok c.requires.alone c.requires.unhooked c.run_out.new.core r)

pub unreachable-requires : goal.unreachable-requires
unreachable-requires c =
    let config : Config = record { image = c.args.image.now; setup = c.args.setup.now; views = c.args.views.now } in
    let ok : IsConfig config = record { image = c.requires.image; setup = c.requires.setup; views = c.requires.views } in
    let r : RunsOut [] c.args.setup.now.vcpus (first_world config) c.run_out.new.core = subst (λ w. RunsOut [] c.args.setup.now.vcpus w c.run_out.new.core) c.in_ok-core.ensures c.run_out.ensures in
    absurd (cc (subst IsSome (sym c.end.ensures ∙ c.in-None.is) (ended c.every_order_is_sound.ensures (idle-ended c.every_order_is_sound.ensures c.idle_runs_have_ended.ensures c.steps_count_one.ensures.vcpus) config ok [] c.run_out.new.core r)))

pub returns : goal.returns
returns c =
    let config : Config = record { image = c.args.image.now; setup = c.args.setup.now; views = c.args.views.now } in
    let ok : IsConfig config = record { image = c.requires.image; setup = c.requires.setup; views = c.requires.views } in
    let r : RunsOut [] c.args.setup.now.vcpus (first_world config) c.run_out.new.core = subst (λ w. RunsOut [] c.args.setup.now.vcpus w c.run_out.new.core) c.in_ok-core.ensures c.run_out.ensures in
    let view : c.choose-view.result ≡ first_view config = c.choose-view.ensures.value ∙ ap (λ name. view_named c.args.views.now name) c.as_ref.ensures.value in
    let run : IsRunOf config (alone_steps c.every_order_is_sound.ensures (idle-ended c.every_order_is_sound.ensures c.idle_runs_have_ended.ensures c.steps_count_one.ensures.vcpus) c.without_hook_first_view_logs_all_misses.ensures config ok c.requires.alone c.requires.unhooked c.run_out.new.core r) c.in-Some.end c.run_out.new.core.board.state.console c.in_ok-log.log.items
    = lone-run c.every_order_is_sound.ensures (idle-ended c.every_order_is_sound.ensures c.idle_runs_have_ended.ensures c.steps_count_one.ensures.vcpus) c.without_hook_first_view_logs_all_misses.ensures config ok c.requires.alone c.requires.unhooked c.run_out.new.core r c.in-Some.end c.in_ok-log.log.items (sym c.end.ensures ∙ c.in-Some.is)
    (rw (c.in_ok-log.ensures, c.log.ensures, view) refl) in
    (alone_steps c.every_order_is_sound.ensures (idle-ended c.every_order_is_sound.ensures c.idle_runs_have_ended.ensures c.steps_count_one.ensures.vcpus) c.without_hook_first_view_logs_all_misses.ensures config ok c.requires.alone c.requires.unhooked c.run_out.new.core r, rw (c.in_ok-console.ensures.items, c.console.ensures) run)
