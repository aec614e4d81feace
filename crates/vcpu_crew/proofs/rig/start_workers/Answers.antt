use Rattle.std.proofs.Common.{◌≡◌, ℕ, suc, ◌-◌, List, sym, subst, arith, ◌∙◌}
use Rattle.turn_table.specs.declared.pass.Pass.{Pass}
use Rattle.turn_table.specs.Passes.{config_in, known}
use Rattle.vcpu_core.specs.declared.lane.Lane.{Lane}
use Rattle.vcpu_crew.specs.Rig.{AreFirst, OwnsBelow}
use Rattle.vcpu_crew.proofs.Starting.{several, split_last}
use Rattle.vcpu_crew.proofs.rig.start_workers.Goals as goal

pub split-last-requires-clause-several : goal.split-last-requires-clause-several
split-last-requires-clause-several c =
    let next : c.loop-left.left ≡ suc (c.loop-left.left - 1) = omega arith in
    several (config_in c.args.turns.now) (known c.loop-left.rest) (c.loop-left.left - 1) (subst (λ (k : ℕ). OwnsBelow (config_in c.args.turns.now) k (known c.loop-left.rest)) next c.loop-left.invariant.owns) (omega arith)

pub loop-left-preserved : goal.loop-left-preserved
loop-left-preserved c =
    let next : c.loop-left.left ≡ suc (c.loop-left.left - 1) = omega arith in
    let owns : OwnsBelow (config_in c.args.turns.now) (suc (c.loop-left.left - 1)) (known c.loop-left.rest) = subst (λ (k : ℕ). OwnsBelow (config_in c.args.turns.now) k (known c.loop-left.rest)) next c.loop-left.invariant.owns in
    let rest : AreFirst c.args.turns.now (suc (c.loop-left.left - 1)) c.loop-left.workers.items = subst (λ (k : ℕ). AreFirst c.args.turns.now k c.loop-left.workers.items) next c.loop-left.invariant.rest in
    let after = split_last c.args.turns.now (c.loop-left.left - 1) c.args.view c.loop-left.rest c.split-last.new.pass c.split-last.result c.start_lane.result c.loop-left.workers.items c.requires.view
    owns (c.split-last.ensures.same.1 ∙ c.loop-left.invariant.pass) c.split-last.ensures.left c.split-last.ensures.right c.start_lane.ensures rest in
    record {
      some = omega arith;
      pass = c.split-last.ensures.same.0 ∙ c.loop-left.invariant.pass;
      owns = after.0;
      rest = subst (λ (ws : List (Pass × Lane)). AreFirst c.args.turns.now (c.loop-left.left - 1) ws) (sym c.in_ok-insert.ensures.items) after.1;
    }
