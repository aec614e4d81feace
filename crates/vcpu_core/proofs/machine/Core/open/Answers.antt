use Rattle.std.proofs.Common.{◌≡◌, ◌+◌, sym, ◌∙◌, subst, ap, arith, length, List}
use Rattle.std.proofs.lemmas.Grind.{common_steps}
use Rattle.function_table.specs.Groups.{Groups}
use Rattle.view_file.specs.Named.{view_named}
use Rattle.view_store.specs.Paged.{PagedView}
use Rattle.guest_board.specs.Board.{Seat}
use Rattle.guest_board.specs.First.{first_seat}
use Rattle.run_evidence.specs.Config.{Config, IsConfig}
use Rattle.vcpu_core.specs.declared.lane.Lane.{Lane}
use Rattle.vcpu_core.specs.First.{first_world, first_paged_views, first_lanes}
use Rattle.vcpu_core.specs.World.{World, IsReady}
use Rattle.vcpu_core.specs.Stages.{AreStagesFor}
use Rattle.vcpu_core.proofs.Start.{first_ready}
use Rattle.vcpu_core.proofs.machine.Core.open.Goals as goal

pub invariant_of-result : goal.invariant_of-result
unfolding first_world
invariant_of-result c =
    let given : Config = record { image = c.args.image.now; setup = c.args.setup.now; views = c.args.profile.now } in
    let ok : IsConfig given = record { image = c.requires.image; setup = c.requires.setup; views = c.requires.views } in
    let after : Groups → Seat → List PagedView → List Lane → World = λ groups board paged_views lanes.
    record { profile = c.args.profile.now; groups = groups; board = board; paged_views = paged_views; lanes = lanes } in
    let chosen : c.choose.result ≡ view_named c.args.profile.now c.args.setup.now.start = grind (arith, common_steps) in
    let seat : Seat = first_seat c.args.image.now c.args.setup.now in
    let paged_views : List PagedView = first_paged_views given (length c.args.profile.now.apps + 1) in
    let lanes : List Lane = first_lanes (view_named c.args.profile.now c.args.setup.now.start) c.args.setup.now.vcpus in
    let same_lanes : c.in_ok-lanes.lanes.items ≡ lanes = c.in_ok-lanes.ensures ∙ ap (λ v. first_lanes v c.args.setup.now.vcpus) chosen in
    let one : IsReady (after c.args.table.now seat paged_views lanes) = subst (λ x. IsReady (after x seat paged_views lanes)) (sym c.requires.table) (first_ready given ok) in
    let two : IsReady (after c.args.table.now c.in_ok-board.board paged_views lanes) = subst (λ x. IsReady (after c.args.table.now x paged_views lanes)) (sym c.in_ok-board.ensures) one in
    let three : IsReady (after c.args.table.now c.in_ok-board.board c.in_ok-views.views.items lanes)
    = subst (λ x. IsReady (after c.args.table.now c.in_ok-board.board x lanes)) (sym (c.in_ok-views.ensures c.args.setup.now)) two in
    let ready : IsReady (after c.args.table.now c.in_ok-board.board c.in_ok-views.views.items c.in_ok-lanes.lanes.items)
    = subst (λ x. IsReady (after c.args.table.now c.in_ok-board.board c.in_ok-views.views.items x)) (sym same_lanes) three in
    record {
      ready = ready;
      stages = subst (λ x. AreStagesFor x (length c.args.profile.now.apps + 1) c.in_ok-stages.stages.items) c.ram.ensures c.in_ok-stages.ensures.stages;
    }
