use Rattle.std.proofs.Common.{◌≡◌, ◌+◌, ◌∙◌, ap, arith, length, List, replicate, subst, sym, true}
use Rattle.std.specs.Prelude.{slice_index_or, slice_set}
use Rattle.std.proofs.lemmas.Grind.{common_steps}
use Rattle.gstage.specs.Table.{Table}
use Rattle.guest_ram.specs.Ram.{IsLaid}
use Rattle.guest_board.specs.Board.{may}
use Rattle.view_store.specs.Paged.{PagedView}
use Rattle.vcpu_core.specs.declared.lane.Lane.{Lane}
use Rattle.vcpu_core.specs.declared.lane.Phase.{Phase}
use Rattle.vcpu_core.specs.declared.lane.Phase.TheVariants.{Running}
use Rattle.vcpu_core.specs.Stages.{AreStagesFor}
use Rattle.vcpu_core.specs.Whole.{world_of}
use Rattle.vcpu_core.specs.World.{AreViewsOf, World, IsReady, go_all, lane_of, row_count, row_limit}
use Rattle.vcpu_core.proofs.Counted.{RowHas, count-at}
use Rattle.vcpu_core.proofs.InRow.{IsSet, RowLeads, all-set, lane-at, ready_lane, row-at, views-ready, world_with}
use Rattle.vcpu_core.proofs.machine.Core.make_row.Goals as goal

pub row-requires-clause-may : goal.row-requires-clause-may
row-requires-clause-may c =
    let w : World = world_of c.self.inside in
    let l : Lane = c.index_mut.result.now in
    let at : l ≡ slice_index_or c.self.inside.lanes.items c.args.i l = grind (arith, common_steps) in
    let m : may w.board.rules w.board.state c.args.i ≡ true = subst (λ (x : World). may x.board.rules x.board.state c.args.i ≡ true) (sym c.self.view_is) c.requires.may in
    subst (λ k. may w.board.rules w.board.state k ≡ true) (sym (ready_lane w c.args.i l m c.self.invariant.ready at).number) m

pub row-requires-clause-running : goal.row-requires-clause-running
row-requires-clause-running c =
    let w : World = world_of c.self.inside in
    let l : Lane = c.index_mut.result.now in
    let at : l ≡ slice_index_or c.self.inside.lanes.items c.args.i l = grind (arith, common_steps) in
    let m : may w.board.rules w.board.state c.args.i ≡ true = subst (λ (x : World). may x.board.rules x.board.state c.args.i ≡ true) (sym c.self.view_is) c.requires.may in
    let runs : (lane_of w c.args.i).phase ≡ Running = subst (λ (x : World). (lane_of x c.args.i).phase ≡ Running) (sym c.self.view_is) c.requires.running in
    ap (λ (x : Lane). x.phase) (lane-at w c.args.i l m c.self.invariant.ready at) ∙ runs

pub row-requires-clause-views : goal.row-requires-clause-views
row-requires-clause-views c =
    subst (λ (vs : List PagedView). AreViewsOf c.self.inside.board.state.ram c.self.inside.profile.now vs) (sym c.deref-2.ensures.value) (views-ready (world_of c.self.inside) c.self.invariant.ready)

pub invariant_of-self : goal.invariant_of-self
invariant_of-self c =
    let w : World = world_of c.self.inside in
    let l : Lane = c.index_mut.result.now in
    let at : l ≡ slice_index_or c.self.inside.lanes.items c.args.i l = grind (arith, common_steps) in
    let m : may w.board.rules w.board.state c.args.i ≡ true = subst (λ (x : World). may x.board.rules x.board.state c.args.i ≡ true) (sym c.self.view_is) c.requires.may in
    let leads : RowLeads w.profile w.paged_views w.board c.row.new.board l c.row.new.lane c.row.result =
    subst (λ (vs : List PagedView). RowLeads w.profile vs w.board c.row.new.board l c.row.new.lane c.row.result) c.deref-2.ensures.value c.row.ensures.after in
    let row : world_with w.profile w.groups w.paged_views c.row.new.board (slice_set w.lanes c.args.i c.row.new.lane) ≡ go_all w (replicate c.row.result c.args.i) =
    row-at w c.args.i c.row.result l c.row.new.lane c.row.new.board m c.self.invariant.ready at leads in
    let laid : IsLaid w.board.state.ram = subst IsLaid c.ram.ensures c.text-laid.ensures.laid in
    let set : IsSet (go_all w (replicate c.row.result c.args.i)) = all-set w (replicate c.row.result c.args.i) (record { ready = c.self.invariant.ready; laid = laid }) in
    record {
      ready = subst (λ n. IsReady (world_with w.profile w.groups w.paged_views c.row.new.board (slice_set w.lanes n c.row.new.lane))) (sym c.i.view_is) (subst IsReady (sym row) set.ready);
      stages = subst (λ (ts : List Table). AreStagesFor c.row.new.board.state.ram (length c.self.inside.profile.now.apps + 1) ts) c.deref.ensures.value c.row.ensures.stages;
    }

pub returns-clause-after : goal.returns-clause-after
returns-clause-after c =
    let w : World = world_of c.self.inside in
    let l : Lane = c.index_mut.result.now in
    let at : l ≡ slice_index_or c.self.inside.lanes.items c.args.i l = grind (arith, common_steps) in
    let m : may w.board.rules w.board.state c.args.i ≡ true = subst (λ (x : World). may x.board.rules x.board.state c.args.i ≡ true) (sym c.self.view_is) c.requires.may in
    let leads : RowLeads w.profile w.paged_views w.board c.row.new.board l c.row.new.lane c.row.result =
    subst (λ (vs : List PagedView). RowLeads w.profile vs w.board c.row.new.board l c.row.new.lane c.row.result) c.deref-2.ensures.value c.row.ensures.after in
    let row : world_with w.profile w.groups w.paged_views c.row.new.board (slice_set w.lanes c.args.i c.row.new.lane) ≡ go_all w (replicate c.row.result c.args.i) =
    row-at w c.args.i c.row.result l c.row.new.lane c.row.new.board m c.self.invariant.ready at leads in
    ap (λ n. world_with w.profile w.groups w.paged_views c.row.new.board (slice_set w.lanes n c.row.new.lane)) c.i.view_is
    ∙ row ∙ ap (λ (x : World). go_all x (replicate c.row.result c.args.i)) c.self.view_is

pub returns-clause-count : goal.returns-clause-count
returns-clause-count c =
    let w : World = world_of c.self.inside in
    let l : Lane = c.index_mut.result.now in
    let at : l ≡ slice_index_or c.self.inside.lanes.items c.args.i l = grind (arith, common_steps) in
    let m : may w.board.rules w.board.state c.args.i ≡ true = subst (λ (x : World). may x.board.rules x.board.state c.args.i ≡ true) (sym c.self.view_is) c.requires.may in
    let has : RowHas w.profile w.paged_views w.board l c.args.limit c.row.result =
    subst (λ (vs : List PagedView). RowHas w.profile vs w.board l c.args.limit c.row.result) c.deref-2.ensures.value c.row.ensures.count in
    count-at w c.args.i c.row.result c.args.limit l m c.self.invariant.ready at has
    ∙ ap (λ (x : World). row_count x c.args.i c.args.limit) c.self.view_is
    ∙ ap (λ (q : Phase). row_count c.args.self.now c.args.i (row_limit q c.args.limit)) (sym c.requires.running)
