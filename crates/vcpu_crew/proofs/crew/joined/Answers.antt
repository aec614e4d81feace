use Rattle.std.proofs.Common.{◌∙◌}
use Rattle.turn_table.specs.declared.pass.Pass.{Pass}
use Rattle.vcpu_core.specs.declared.lane.Lane.{Lane}
use Rattle.vcpu_crew.proofs.Finishing.{finished_at, finished_front, joined_last, joined_more}
use Rattle.vcpu_crew.proofs.crew.joined.Goals as goal

pub loop-pass-init : goal.loop-pass-init
loop-pass-init c =
    let w : Pass × Lane = (c.in-Some.all, c.in-Some.field-0-1) in record {
      finished = finished_front c.args.turns.now c.args.workers.items c.pop.new.self.items w c.in-Some.ensures.items c.requires.finished;
      joined = joined_last c.args.turns.now c.pop.new.self.len c.args.workers.len w c.in-Some.ensures.cases
          (finished_at c.args.turns.now c.args.workers.items c.pop.new.self.items w c.pop.new.self.len c.in-Some.ensures.items c.pop.new.self.ok.0 c.requires.finished);
    }

pub join-requires-clause-same : goal.join-requires-clause-same
join-requires-clause-same c =
    let w : Pass × Lane = (c.in-Some-pop.pass, c.in-Some-pop.field-0-1) in
    let f = finished_at c.args.turns.now c.loop-pass.workers.items c.pop-in-loop-pass.new.self.items w c.pop-in-loop-pass.new.self.len c.in-Some-pop.ensures.items c.pop-in-loop-pass.new.self.ok.0 c.loop-pass.invariant.finished in
    (c.loop-pass.invariant.joined.pass, f.pass)

pub join-requires-clause-free : goal.join-requires-clause-free
join-requires-clause-free c =
    let w : Pass × Lane = (c.in-Some-pop.pass, c.in-Some-pop.field-0-1) in
    let f = finished_at c.args.turns.now c.loop-pass.workers.items c.pop-in-loop-pass.new.self.items w c.pop-in-loop-pass.new.self.len c.in-Some-pop.ensures.items c.pop-in-loop-pass.new.self.ok.0 c.loop-pass.invariant.finished in
    (c.loop-pass.invariant.joined.free, f.run.free)

pub loop-pass-preserved : goal.loop-pass-preserved
loop-pass-preserved c =
    let w : Pass × Lane = (c.in-Some-pop.pass, c.in-Some-pop.field-0-1) in
    let f = finished_at c.args.turns.now c.loop-pass.workers.items c.pop-in-loop-pass.new.self.items w c.pop-in-loop-pass.new.self.len c.in-Some-pop.ensures.items c.pop-in-loop-pass.new.self.ok.0 c.loop-pass.invariant.finished in
    record {
      finished = finished_front c.args.turns.now c.loop-pass.workers.items c.pop-in-loop-pass.new.self.items w c.in-Some-pop.ensures.items c.loop-pass.invariant.finished;
      joined = joined_more c.args.turns.now c.pop-in-loop-pass.new.self.len c.loop-pass.workers.len c.args.workers.len c.loop-pass.all c.join.new.pass w c.in-Some-pop.ensures.cases c.loop-pass.invariant.joined f
          (c.join.ensures.same ∙ c.loop-pass.invariant.joined.pass) c.join.ensures.both;
    }
