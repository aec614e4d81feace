use Rattle.std.proofs.Common.{◌≡◌, ℕ, ◌+◌, ◌<◌, arith, length, true, sym, refl, ◌∙◌, subst, ap, List}
use Rattle.std.specs.Prelude.{slice_index_or, slice_set, vec_len}
use Rattle.std.specs.Vec.{with_items}
use Rattle.std.proofs.lemmas.List.{with_items_is}
use Rattle.std.proofs.lemmas.Grind.{common_steps}
use Rattle.guest_ram.specs.Ram.{IsLaid}
use Rattle.guest_board.specs.Board.{may}
use Rattle.view_store.specs.Paged.{PagedView}
use Rattle.vcpu_core.specs.declared.lane.Lane.{Lane}
use Rattle.vcpu_core.specs.World.{World, IsReady, IsLaneReady, IsPagedReady, paged_in, gone}
use Rattle.gstage.specs.Table.{Table}
use Rattle.vcpu_core.specs.Stages.{AreStagesFor}
use Rattle.vcpu_core.specs.Whole.{world_of}
use Rattle.vcpu_core.proofs.InRow.{ready_lane}
use Rattle.vcpu_core.proofs.Ready.{gone-ready}
use Rattle.vcpu_core.proofs.machine.Core.make_event.Goals as goal

-- it, in the body
ready_in : (c : goal.After-index_mut) → IsLaneReady (world_of c.self.inside) c.args.i c.index_mut.result.now
ready_in c =
    let at : c.index_mut.result.now ≡ slice_index_or c.self.inside.lanes.items c.args.i c.index_mut.result.now = grind (arith, common_steps) in
    ready_lane (world_of c.self.inside) c.args.i c.index_mut.result.now (sym c.if-not-may.ensures) c.self.invariant.ready at

pub event-requires-clause-may : goal.event-requires-clause-may
event-requires-clause-may c =
    let ready : IsLaneReady (world_of c.self.inside) c.args.i c.index_mut.result.now = ready_in c in
    subst (λ x. may c.self.inside.board.rules c.self.inside.board.state x ≡ true) (sym ready.number) (sym c.if-not-may.ensures)

pub event-requires-clause-view : goal.event-requires-clause-view
event-requires-clause-view c =
    let ready : IsLaneReady (world_of c.self.inside) c.args.i c.index_mut.result.now = ready_in c in
    subst (λ x. c.index_mut.result.now.windows.view < length x) (sym c.deref_mut.ensures.value) ready.view

pub event-requires-clause-paged : goal.event-requires-clause-paged
event-requires-clause-paged c =
    let ready : IsLaneReady (world_of c.self.inside) c.args.i c.index_mut.result.now = ready_in c in
    let paged : IsPagedReady (world_of c.self.inside) c.index_mut.result.now.windows.view (paged_in c.self.inside.views.items c.index_mut.result.now.windows.view)
    = c.self.invariant.ready.paged_views c.index_mut.result.now.windows.view ready.view in
    subst (λ x. (paged_in x c.index_mut.result.now.windows.view).number ≡ c.index_mut.result.now.windows.view) (sym c.deref_mut.ensures.value) paged.number

pub event-requires-clause-groups : goal.event-requires-clause-groups
event-requires-clause-groups c =
    let ready : IsLaneReady (world_of c.self.inside) c.args.i c.index_mut.result.now = ready_in c in
    let paged : IsPagedReady (world_of c.self.inside) c.index_mut.result.now.windows.view (paged_in c.self.inside.views.items c.index_mut.result.now.windows.view)
    = c.self.invariant.ready.paged_views c.index_mut.result.now.windows.view ready.view in
    subst (λ x. (paged_in x c.index_mut.result.now.windows.view).groups ≡ c.self.inside.table.now) (sym c.deref_mut.ensures.value) paged.groups

pub event-requires-clause-placed : goal.event-requires-clause-placed
event-requires-clause-placed c =
    let ready : IsLaneReady (world_of c.self.inside) c.args.i c.index_mut.result.now = ready_in c in
    ready.placed

pub invariant_of-self : goal.invariant_of-self
invariant_of-self c =
    let w : World = world_of c.self.inside in
    let l : Lane = c.index_mut.result.now in
    let at : l ≡ slice_index_or c.self.inside.lanes.items c.args.i l = grind (arith, common_steps) in
    let m : may w.board.rules w.board.state c.args.i ≡ true = sym c.if-not-may.ensures in
    let ready : IsLaneReady w c.args.i l = ready_lane w c.args.i l m c.self.invariant.ready at in
    let laid : IsLaid w.board.state.ram = subst IsLaid c.ram.ensures c.text-laid.ensures.laid in
    let going : IsReady (gone w c.args.i l l.phase) = gone-ready w c.args.i l l.phase m c.self.invariant.ready laid ready refl in
    let made : List PagedView → ℕ → Type 0 = λ paged_views n.
    (record { profile = c.self.inside.profile.now; groups = c.self.inside.table.now; board = c.event.new.board; paged_views = c.event.new.views; lanes = slice_set c.self.inside.lanes.items n c.event.new.lane }
    ≡ gone (record { profile = c.self.inside.profile.now; groups = c.self.inside.table.now; board = c.self.inside.board; paged_views = paged_views; lanes = c.self.inside.lanes.items }) n l l.phase) in
    let first : made c.deref_mut.result.now l.vcpu = c.event.ensures.after c.self.inside.lanes.items in
    let second : made c.self.inside.views.items l.vcpu = subst (λ paged_views. made paged_views l.vcpu) c.deref_mut.ensures.value first in
    let third : made c.self.inside.views.items c.args.i = subst (made c.self.inside.views.items) ready.number second in
    let after : List PagedView → ℕ → World = λ paged_views n.
    record { profile = c.self.inside.profile.now; groups = c.self.inside.table.now; board = c.event.new.board; paged_views = paged_views; lanes = slice_set c.self.inside.lanes.items n c.event.new.lane } in
    let fourth : IsReady (after c.event.new.views c.args.i) = subst IsReady (sym third) going in
    let long : length c.self.inside.views.items ≡ vec_len c.self.inside.views = ap length (sym c.deref_mut.ensures.value) ∙ c.deref_mut.ensures.len in
    let as_long : length c.event.new.views ≡ vec_len c.self.inside.views = fourth.views ∙ sym c.self.invariant.ready.views ∙ long in
    let same : (with_items c.self.inside.views c.event.new.views).items ≡ c.event.new.views = with_items_is c.self.inside.views c.event.new.views as_long in
    let fifth : IsReady (after (with_items c.self.inside.views c.event.new.views).items c.args.i) = subst (λ x. IsReady (after x c.args.i)) (sym same) fourth in
    record {
      ready = subst (λ n. IsReady (after (with_items c.self.inside.views c.event.new.views).items n)) (sym c.i.view_is) fifth;
      stages = subst (λ (ts : List Table). AreStagesFor c.event.new.board.state.ram (length c.self.inside.profile.now.apps + 1) ts) c.deref.ensures.value c.event.ensures.stages;
    }
