use Rattle.std.proofs.Common.{◌≡◌, ◌+◌, ◌*◌, ◌<◌, ◌∙◌, ap, arith, length, refl, rules, subst, sym, true}
use Rattle.std.proofs.lemmas.Grind.{common_steps}
use Rattle.fc_numbers.specs.Spans.{text_size}
use Rattle.run_evidence.proofs.Steps.{may-slot}
use Rattle.vcpu_core.specs.declared.lane.Taken.TheVariants.{End}
use Rattle.vcpu_core.specs.declared.lane.Then.{Then}
use Rattle.vcpu_core.specs.Placed.{IsPlacedPhase}
use Rattle.view_file.specs.Named.{view_named}
use Rattle.guest_board.specs.Board.{Seat, may, name_of}
use Rattle.guest_board.proofs.Stays.{laid_kept}
use Rattle.view_store.specs.Paged.{PagedView}
use Rattle.vcpu_core.specs.declared.lane.Lane.{Lane}
use Rattle.vcpu_core.specs.declared.lane.Phase.{Phase}
use Rattle.vcpu_core.specs.Lanes.{after_fill, fill_row}
use Rattle.vcpu_core.specs.World.{paged_in, row_past}
use Rattle.vcpu_core.proofs.Counted.{RowCounts, count-ended, count-full, count-last, count-more, count-start, stops}
use Rattle.vcpu_core.proofs.InRow.{IsNeedMet, fill-leads, need-met, row-fills, row-start, row-steps, step-leads, step-runs, views-kept}
use Rattle.vcpu_core.proofs.Staged.{stages_kept}
use Rattle.vcpu_core.proofs.Turning.{IsRunningOn, name-stays}
use Rattle.vcpu_core.proofs.machine.row.Goals as goal

pub loop-made-init : goal.loop-made-init
loop-made-init c = record {
  leads = row-start c.args.profile.now c.args.views.now c.args.board.now c.args.lane.now;
  counts = count-start c.args.profile.now c.args.views.now c.args.board.now c.args.lane.now;
  own = refl;
  running = c.requires.running;
  number = may-slot c.args.board.now.rules c.args.board.now.state c.args.lane.now.vcpu c.requires.may;
  view = c.view_named-view.ensures.value;
  within = c.view_named-view.ensures.within;
  stages = c.requires.stages;
  laid = c.requires.laid;
  views = c.requires.views;
  most = omega arith;
  first = λ none. c.requires.may;
}

pub view_after-view-requires-clause-number : goal.view_after-view-requires-clause-number
view_after-view-requires-clause-number c =
    let on : IsRunningOn c.loop-made.board c.take_step.new.board c.loop-made.lane c.take_step.new.lane =
    step-runs c.args.profile.now c.loop-made.board c.take_step.new.board c.loop-made.lane c.take_step.new.lane c.in-Step.hooked c.in-Step.ensures.board c.in-Step.ensures.lane c.in-Step.ensures.answer in
    omega (arith, on.vcpu, on.slots, c.loop-made.invariant.number)

pub view_after-view-requires-clause-view : goal.view_after-view-requires-clause-view
view_after-view-requires-clause-view c = λ away.
    let on : IsRunningOn c.loop-made.board c.take_step.new.board c.loop-made.lane c.take_step.new.lane =
    step-runs c.args.profile.now c.loop-made.board c.take_step.new.board c.loop-made.lane c.take_step.new.lane c.in-Step.hooked c.in-Step.ensures.board c.in-Step.ensures.lane c.in-Step.ensures.answer in
    subst (λ i. c.loop-made.view ≡ view_named c.args.profile.now (name_of c.take_step.new.board.state i)) (sym on.vcpu)
    (name-stays c.args.profile.now c.loop-made.board c.take_step.new.board c.loop-made.lane c.loop-made.view c.in-Step.hooked c.loop-made.invariant.number c.loop-made.invariant.view
    c.in-Step.ensures.board c.in-Step.ensures.answer away)

pub loop-made-preserved-in-Step : goal.loop-made-preserved-in-Step
loop-made-preserved-in-Step c =
    let on : IsRunningOn c.loop-made.board c.take_step.new.board c.loop-made.lane c.take_step.new.lane =
    step-runs c.args.profile.now c.loop-made.board c.take_step.new.board c.loop-made.lane c.take_step.new.lane c.in-Step.hooked c.in-Step.ensures.board c.in-Step.ensures.lane c.in-Step.ensures.answer in
    record {
      leads = row-steps c.args.profile.now c.args.views.now c.args.board.now c.loop-made.board c.take_step.new.board c.args.lane.now c.loop-made.lane c.take_step.new.lane c.loop-made.made
          c.loop-made.invariant.leads c.loop-made.invariant.own (sym c.if-may.ensures) c.loop-made.invariant.running c.in-Step.ensures.board c.in-Step.ensures.lane;
      counts = count-more c.args.profile.now c.args.views.now c.args.board.now c.loop-made.board c.take_step.new.board c.args.lane.now c.loop-made.lane c.take_step.new.lane c.loop-made.made c.loop-made.invariant.counts
          c.loop-made.invariant.own (sym c.if-may.ensures) (step-leads c.args.profile.now c.args.views.now c.loop-made.board c.take_step.new.board c.loop-made.lane c.take_step.new.lane c.loop-made.invariant.running c.in-Step.ensures.board c.in-Step.ensures.lane) (λ later. ap (λ (q : Phase). row_past q later) on.running);
      own = on.vcpu ∙ c.loop-made.invariant.own;
      running = on.running;
      number = omega (arith, on.vcpu, on.slots, c.loop-made.invariant.number);
      view = c.view_after-view.ensures.value;
      within = c.view_after-view.ensures.within;
      stages = stages_kept c.loop-made.board.state.ram c.take_step.new.board.state.ram (length c.args.profile.now.apps + 1) c.args.stages.now c.in-Step.ensures.keeps c.loop-made.invariant.stages;
      laid = laid_kept c.loop-made.board.state.ram c.take_step.new.board.state.ram c.in-Step.ensures.keeps c.loop-made.invariant.laid;
      views = views-kept c.loop-made.board.state.ram c.take_step.new.board.state.ram c.args.profile.now c.args.views.now c.in-Step.ensures.keeps c.loop-made.invariant.views;
      most = omega (arith, c.loop-made-test.true);
      first = λ none. absurd (omega (arith, none));
    }

pub returns-then-made-limit-clause-after : goal.returns-then-made-limit-clause-after
returns-then-made-limit-clause-after c =
    row-steps c.args.profile.now c.args.views.now c.args.board.now c.loop-made.board c.take_step.new.board c.args.lane.now c.loop-made.lane c.take_step.new.lane c.loop-made.made
    c.loop-made.invariant.leads c.loop-made.invariant.own (sym c.if-may.ensures) c.loop-made.invariant.running c.in-End.ensures.board c.in-End.ensures.lane

pub returns-then-made-limit-clause-count : goal.returns-then-made-limit-clause-count
returns-then-made-limit-clause-count c =
    let n : IsNeedMet c.args.profile.now c.loop-made.board c.take_step.new.board c.loop-made.lane c.take_step.new.lane =
    need-met c.args.profile.now c.loop-made.board c.take_step.new.board c.loop-made.lane c.take_step.new.lane c.loop-made.invariant.laid (sym c.if-may.ensures)
    c.in-End.ensures.board c.in-End.ensures.lane (sym (ap (λ (t : Then). End t) c.in-Need.is) ∙ c.in-End.ensures.answer) in
    let counts : RowCounts c.args.profile.now c.args.views.now c.args.board.now c.take_step.new.board c.args.lane.now c.take_step.new.lane (c.loop-made.made + 1) =
    count-more c.args.profile.now c.args.views.now c.args.board.now c.loop-made.board c.take_step.new.board c.args.lane.now c.loop-made.lane c.take_step.new.lane c.loop-made.made c.loop-made.invariant.counts
    c.loop-made.invariant.own (sym c.if-may.ensures) (step-leads c.args.profile.now c.args.views.now c.loop-made.board c.take_step.new.board c.loop-made.lane c.take_step.new.lane c.loop-made.invariant.running c.in-End.ensures.board c.in-End.ensures.lane) (λ later. ap (λ (q : Phase). row_past q later) n.wants) in
    count-full c.args.profile.now c.args.views.now c.args.board.now c.take_step.new.board c.take_step.new.board c.args.lane.now c.take_step.new.lane c.take_step.new.lane (c.loop-made.made + 1) counts
    c.args.limit c.if-made-limit.true

pub returns-else-may-clause-count : goal.returns-else-may-clause-count
returns-else-may-clause-count c =
    count-ended c.args.profile.now c.args.views.now c.args.board.now c.loop-made.board c.loop-made.board c.args.lane.now c.loop-made.lane c.loop-made.lane c.loop-made.made c.loop-made.invariant.counts
    c.args.limit c.loop-made.invariant.most c.loop-made.invariant.own (sym c.if-may.ensures)

pub returns-after-loop-made-clause-count : goal.returns-after-loop-made-clause-count
returns-after-loop-made-clause-count c =
    count-full c.args.profile.now c.args.views.now c.args.board.now c.loop-made.board c.loop-made.board c.args.lane.now c.loop-made.lane c.loop-made.lane c.loop-made.made c.loop-made.invariant.counts
    c.args.limit (omega (arith, c.loop-made.invariant.most, c.loop-made-test.false))

pub fill-requires-clause-placed : goal.fill-requires-clause-placed
fill-requires-clause-placed c =
    let n : IsNeedMet c.args.profile.now c.loop-made.board c.take_step.new.board c.loop-made.lane c.take_step.new.lane =
    need-met c.args.profile.now c.loop-made.board c.take_step.new.board c.loop-made.lane c.take_step.new.lane c.loop-made.invariant.laid (sym c.if-may.ensures)
    c.in-End.ensures.board c.in-End.ensures.lane (sym (ap (λ (t : Then). End t) c.in-Need.is) ∙ c.in-End.ensures.answer) in
    let within : c.loop-made.view < length c.args.views.now = omega (arith, c.loop-made.invariant.within, c.loop-made.invariant.views.count) in
    let at : c.index-views-view.result ≡ paged_in c.args.views.now c.loop-made.view = grind (arith, common_steps) in
    let text : c.index-views-view.result.groups.text ≡ c.loop-made.board.state.ram.text =
    ap (λ (q : PagedView). q.groups.text) at ∙ c.loop-made.invariant.views.text c.loop-made.view within in
    subst (λ (q : Phase). IsPlacedPhase c.index-views-view.result.groups c.take_step.new.lane q) (sym n.wants)
    (subst (λ t. 64 * n.line < text_size t) (sym text) n.below)

pub loop-made-preserved : goal.loop-made-preserved
loop-made-preserved c =
    let n : IsNeedMet c.args.profile.now c.loop-made.board c.take_step.new.board c.loop-made.lane c.take_step.new.lane =
    need-met c.args.profile.now c.loop-made.board c.take_step.new.board c.loop-made.lane c.take_step.new.lane c.loop-made.invariant.laid (sym c.if-may.ensures)
    c.in-End.ensures.board c.in-End.ensures.lane (sym (ap (λ (t : Then). End t) c.in-Need.is) ∙ c.in-End.ensures.answer) in
    let within : c.loop-made.view < length c.args.views.now = omega (arith, c.loop-made.invariant.within, c.loop-made.invariant.views.count) in
    let at : c.index-views-view.result ≡ paged_in c.args.views.now c.loop-made.view = grind (arith, common_steps) in
    let leads = row-steps c.args.profile.now c.args.views.now c.args.board.now c.loop-made.board c.take_step.new.board c.args.lane.now c.loop-made.lane c.take_step.new.lane c.loop-made.made
    c.loop-made.invariant.leads c.loop-made.invariant.own (sym c.if-may.ensures) c.loop-made.invariant.running c.in-End.ensures.board c.in-End.ensures.lane in
    let counts : RowCounts c.args.profile.now c.args.views.now c.args.board.now c.take_step.new.board c.args.lane.now c.take_step.new.lane (c.loop-made.made + 1) =
    count-more c.args.profile.now c.args.views.now c.args.board.now c.loop-made.board c.take_step.new.board c.args.lane.now c.loop-made.lane c.take_step.new.lane c.loop-made.made c.loop-made.invariant.counts
    c.loop-made.invariant.own (sym c.if-may.ensures) (step-leads c.args.profile.now c.args.views.now c.loop-made.board c.take_step.new.board c.loop-made.lane c.take_step.new.lane c.loop-made.invariant.running c.in-End.ensures.board c.in-End.ensures.lane) (λ later. ap (λ (q : Phase). row_past q later) n.wants) in
    let filled : c.fill.new.lane ≡ after_fill c.index-views-view.result n.line c.take_step.new.lane =
    c.fill.ensures.exact ∙ ap (λ (q : Phase). fill_row c.index-views-view.result c.take_step.new.lane q) n.wants in
    let number : c.take_step.new.lane.windows.view ≡ c.loop-made.view = n.view ∙ sym c.loop-made.invariant.view in
    let from : c.index-views-view.result ≡ paged_in c.args.views.now c.take_step.new.lane.windows.view = at ∙ ap (λ v. paged_in c.args.views.now v) (sym number) in
    let here : c.fill.new.lane ≡ after_fill (paged_in c.args.views.now c.take_step.new.lane.windows.view) n.line c.take_step.new.lane =
    filled ∙ ap (λ (q : PagedView). after_fill q n.line c.take_step.new.lane) from in
    let vcpu : c.fill.new.lane.vcpu ≡ c.loop-made.lane.vcpu = ap (λ (x : Lane). x.vcpu) here ∙ n.own in
    let may-on : may c.take_step.new.board.rules c.take_step.new.board.state c.take_step.new.lane.vcpu ≡ true =
    subst (λ (x : Seat). may x.rules x.state c.take_step.new.lane.vcpu ≡ true) (sym n.board)
    (subst (λ k. may c.loop-made.board.rules c.loop-made.board.state k ≡ true) (sym n.own) (sym c.if-may.ensures)) in
    record {
      leads = row-fills c.args.profile.now c.args.views.now c.args.board.now c.take_step.new.board c.args.lane.now c.take_step.new.lane c.fill.new.lane (c.loop-made.made + 1) n.line
          leads (n.own ∙ c.loop-made.invariant.own) may-on n.wants here;
      counts = count-more c.args.profile.now c.args.views.now c.args.board.now c.take_step.new.board c.take_step.new.board c.args.lane.now c.take_step.new.lane c.fill.new.lane (c.loop-made.made + 1) counts
          (n.own ∙ c.loop-made.invariant.own) may-on (fill-leads c.args.profile.now c.args.views.now c.take_step.new.board c.take_step.new.lane c.fill.new.lane n.line n.wants here)
          (λ later. ap (λ (q : Phase). row_past q later) (ap (λ (x : Lane). x.phase) here));
      own = vcpu ∙ c.loop-made.invariant.own;
      running = ap (λ (x : Lane). x.phase) here;
      number = subst (λ (x : Seat). c.fill.new.lane.vcpu < length x.state.slots) (sym n.board) (subst (λ k. k < length c.loop-made.board.state.slots) (sym vcpu) c.loop-made.invariant.number);
      view = c.loop-made.invariant.view ∙ ap (λ k. view_named c.args.profile.now (name_of c.loop-made.board.state k)) (sym vcpu)
          ∙ ap (λ (x : Seat). view_named c.args.profile.now (name_of x.state c.fill.new.lane.vcpu)) (sym n.board);
      within = c.loop-made.invariant.within;
      stages = stages_kept c.loop-made.board.state.ram c.take_step.new.board.state.ram (length c.args.profile.now.apps + 1) c.args.stages.now c.in-End.ensures.keeps c.loop-made.invariant.stages;
      laid = laid_kept c.loop-made.board.state.ram c.take_step.new.board.state.ram c.in-End.ensures.keeps c.loop-made.invariant.laid;
      views = views-kept c.loop-made.board.state.ram c.take_step.new.board.state.ram c.args.profile.now c.args.views.now c.in-End.ensures.keeps c.loop-made.invariant.views;
      most = omega (arith, c.loop-made-test.true, c.if-made-limit.false);
      first = λ none. absurd (omega (arith, none));
    }

pub returns-in_default : goal.returns-in_default
returns-in_default c = record {
  after = row-steps c.args.profile.now c.args.views.now c.args.board.now c.loop-made.board c.take_step.new.board c.args.lane.now c.loop-made.lane c.take_step.new.lane c.loop-made.made
      c.loop-made.invariant.leads c.loop-made.invariant.own (sym c.if-may.ensures) c.loop-made.invariant.running c.in-End.ensures.board c.in-End.ensures.lane;
  count = count-last c.args.profile.now c.args.views.now c.args.board.now c.loop-made.board c.take_step.new.board c.args.lane.now c.loop-made.lane c.take_step.new.lane c.loop-made.made c.loop-made.invariant.counts
      c.loop-made.invariant.own (sym c.if-may.ensures) (step-leads c.args.profile.now c.args.views.now c.loop-made.board c.take_step.new.board c.loop-made.lane c.take_step.new.lane c.loop-made.invariant.running c.in-End.ensures.board c.in-End.ensures.lane)
      (stops c.args.profile.now c.loop-made.board c.loop-made.lane c.take_step.new.lane c.in-End.then (sym c.if-may.ensures) c.in-End.ensures.lane c.in-End.ensures.answer (search rules))
      c.args.limit c.loop-made-test.true;
  some = omega arith;
  most = omega (arith, c.loop-made-test.true);
  stages = stages_kept c.loop-made.board.state.ram c.take_step.new.board.state.ram (length c.args.profile.now.apps + 1) c.args.stages.now c.in-End.ensures.keeps c.loop-made.invariant.stages;
}
