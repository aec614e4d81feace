use Rattle.std.proofs.Common.{◌∙◌, ap, sym, suc, refl}
use Rattle.vcpu_core.specs.World.{go_all}
use Rattle.guest_runs.specs.Engine.{round_of}
use Rattle.guest_runs.proofs.OneAlone.{alone-behind}
use Rattle.guest_runs.proofs.Rounds.{one-round}
use Rattle.guest_runs.proofs.engine.run_out.Goals as goal

pub returns-then-not-go_round : goal.returns-then-not-go_round
returns-then-not-go_round c = record {
  rounds = suc c.loop-vcpus.invariant.0;
  leads = c.go_round.ensures.after ∙ ap (λ w. go_all w (round_of c.args.vcpus)) c.loop-vcpus.invariant.1 ∙ sym (one-round c.args.core.now c.args.script.now c.args.vcpus c.loop-vcpus.invariant.0);
  idle = c.if-not-go_round.ensures.idle refl;
}

pub loop-vcpus-preserved : goal.loop-vcpus-preserved
loop-vcpus-preserved c = (
  suc c.loop-vcpus.invariant.0,
  c.go_round.ensures.after ∙ ap (λ w. go_all w (round_of c.args.vcpus)) c.loop-vcpus.invariant.1 ∙ sym (one-round c.args.core.now c.args.script.now c.args.vcpus c.loop-vcpus.invariant.0),
)

pub returns-then-vcpus-eq1 : goal.returns-then-vcpus-eq1
returns-then-vcpus-eq1 c =
    alone-behind c.args.core.now c.follow.new.core c.run_alone.new.core c.args.script.now c.args.vcpus c.follow.ensures c.run_alone.ensures c.if-vcpus-eq1.true
