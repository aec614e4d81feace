use Rattle.std.proofs.Common.{◌≡◌, ℕ, ◌+◌, [], List, refl, length, sym, ap, subst, ◌∙◌, arith}
use Rattle.std.proofs.lemmas.Grind.{common_steps}
use Rattle.guest_ram.specs.Ram.{Ram}
use Rattle.guest_board.specs.Board.{Seat}
use Rattle.view_file.specs.Named.{view_named}
use Rattle.view_store.specs.Paged.{PagedView}
use Rattle.run_evidence.specs.Config.{Config, IsConfig, full}
use Rattle.run_evidence.specs.Evidence.{log_in}
use Rattle.run_evidence.specs.Growing.{views_count, logs_of}
use Rattle.turn_table.specs.Passes.{known}
use Rattle.vcpu_core.specs.Stages.{AreStagesFor}
use Rattle.vcpu_crew.specs.declared.rig.Shared.{Shared}
use Rattle.vcpu_crew.specs.Rig.{OwnsBelow}
use Rattle.vcpu_crew.proofs.Opening.{equipped, no_logs, opens}
use Rattle.vcpu_crew.proofs.Starting.{first_owns}
use Rattle.vcpu_crew.proofs.rig.Rig.open.Goals as goal

pub open-requires-2-clause-some_vcpu : goal.open-requires-2-clause-some_vcpu
open-requires-2-clause-some_vcpu c =
    let given : Config = record { image = c.args.image.now; setup = c.args.setup.now; views = c.args.views } in
    let ok : IsConfig given = record { image = c.requires.image; setup = c.requires.setup; views = c.requires.views } in
    (opens given c.in_ok-board.board c.in_ok-opened.opened.items ok c.in_ok-board.ensures (c.in_ok-opened.ensures c.args.setup.now)).some_vcpu

pub open-requires-2-clause-board : goal.open-requires-2-clause-board
open-requires-2-clause-board c =
    let given : Config = record { image = c.args.image.now; setup = c.args.setup.now; views = c.args.views } in
    let ok : IsConfig given = record { image = c.requires.image; setup = c.requires.setup; views = c.requires.views } in
    (opens given c.in_ok-board.board c.in_ok-opened.opened.items ok c.in_ok-board.ensures (c.in_ok-opened.ensures c.args.setup.now)).board

pub open-requires-2-clause-many : goal.open-requires-2-clause-many
open-requires-2-clause-many c =
    let given : Config = record { image = c.args.image.now; setup = c.args.setup.now; views = c.args.views } in
    let ok : IsConfig given = record { image = c.requires.image; setup = c.requires.setup; views = c.requires.views } in
    (opens given c.in_ok-board.board c.in_ok-opened.opened.items ok c.in_ok-board.ensures (c.in_ok-opened.ensures c.args.setup.now)).many

pub open-requires-2-clause-each : goal.open-requires-2-clause-each
open-requires-2-clause-each c =
    let given : Config = record { image = c.args.image.now; setup = c.args.setup.now; views = c.args.views } in
    let ok : IsConfig given = record { image = c.requires.image; setup = c.requires.setup; views = c.requires.views } in
    (opens given c.in_ok-board.board c.in_ok-opened.opened.items ok c.in_ok-board.ensures (c.in_ok-opened.ensures c.args.setup.now)).each

pub open-requires-2-clause-sound : goal.open-requires-2-clause-sound
open-requires-2-clause-sound c =
    let given : Config = record { image = c.args.image.now; setup = c.args.setup.now; views = c.args.views } in
    let ok : IsConfig given = record { image = c.requires.image; setup = c.requires.setup; views = c.requires.views } in
    (opens given c.in_ok-board.board c.in_ok-opened.opened.items ok c.in_ok-board.ensures (c.in_ok-opened.ensures c.args.setup.now)).sound

pub start_workers-requires-clause-view : goal.start_workers-requires-clause-view
start_workers-requires-clause-view c =
    let chosen : c.choose-first.result ≡ view_named c.args.views c.args.setup.now.start = grind (arith, common_steps) in
    chosen ∙ ap (λ (d : Config). view_named d.views d.setup.start) (sym c.in_ok-turns.ensures.0)

pub start_workers-requires-clause-pass : goal.start_workers-requires-clause-pass
start_workers-requires-clause-pass c =
    let given : Config = record { image = c.args.image.now; setup = c.args.setup.now; views = c.args.views } in
    let ok : IsConfig given = record { image = c.requires.image; setup = c.requires.setup; views = c.requires.views } in
    let none : (k : ℕ) → log_in (logs_of c.in_ok-opened.opened.items) k ≡ [] = λ k. ap (λ (ps : List PagedView). log_in (logs_of ps) k) (c.in_ok-opened.ensures c.args.setup.now) ∙ no_logs given (views_count given) k in
    let unseen : c.in_ok-board.board.schedule ≡ [] = ap (λ (b : Seat). b.schedule) c.in_ok-board.ensures in
    subst (λ (d : Config). OwnsBelow d c.args.setup.now.vcpus (known c.in_ok-turns.pass)) (sym c.in_ok-turns.ensures.0)
    (first_owns given c.in_ok-board.board.schedule (logs_of c.in_ok-opened.opened.items) (known c.in_ok-turns.pass) c.in_ok-turns.ensures.2 unseen none)

pub returns-clause-rig : goal.returns-clause-rig
returns-clause-rig c =
    let given : Config = record { image = c.args.image.now; setup = c.args.setup.now; views = c.args.views } in
    let ok : IsConfig given = record { image = c.requires.image; setup = c.requires.setup; views = c.requires.views } in
    let shared : Shared = record { turns = c.in_ok-turns.turns; stages = c.in_ok-stages.stages; table = c.args.table; views = c.args.views } in
    let ram : c.ram.result.now ≡ (full given []).ram = c.ram.ensures ∙ ap (λ (b : Seat). b.state.ram) c.in_ok-board.ensures in
    let stages : AreStagesFor (full given []).ram (length c.args.views.apps + 1) c.in_ok-stages.stages.items
    = subst (λ (m : Ram). AreStagesFor m (length c.args.views.apps + 1) c.in_ok-stages.stages.items) ram c.in_ok-stages.ensures.stages in
    record { shared = equipped shared given ok c.in_ok-turns.ensures.0 c.requires.table refl stages; workers = c.in_ok-workers.ensures }
