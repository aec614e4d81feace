use Rattle.std.proofs.Common.{◌≡◌, arith, ℕ, subst}
use Rattle.vcpu_core.specs.declared.lane.Went.TheVariants.{Over}
use Rattle.vcpu_core.specs.World.{go_all, went_of}
use Rattle.guest_runs.specs.Engine.{rounds_of}
use Rattle.guest_runs.proofs.OneAlone.{rounds-on}
use Rattle.guest_runs.proofs.engine.run_alone.Goals as goal

pub loop-preserved : goal.loop-preserved
loop-preserved c = rounds-on c.args.core.now c.loop.core c.go_on.new.self c.loop.invariant.0 c.go_on.result c.loop.invariant.1 c.go_on.ensures.after

pub returns-then-go_on-eq0 : goal.returns-then-go_on-eq0
returns-then-go_on-eq0 c =
    let on : (k : ℕ) × (c.go_on.new.self ≡ go_all c.args.core.now (rounds_of 1 k)) =
    rounds-on c.args.core.now c.loop.core c.go_on.new.self c.loop.invariant.0 c.go_on.result c.loop.invariant.1 c.go_on.ensures.after in
    record {
      rounds = on.0;
      leads = on.1;
      idle = λ i low. let first : 0 ≡ i = omega (arith, low) in subst (λ k. went_of c.go_on.new.self k ≡ Over) first (c.go_on.ensures.idle c.if-go_on-eq0.true);
    }
