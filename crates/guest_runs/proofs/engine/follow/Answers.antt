use Rattle.std.proofs.Common.{◌∙◌, ap, refl, sym, arith}
use Rattle.vcpu_core.specs.World.{go_of}
use Rattle.guest_runs.proofs.Events.{go_all-take}
use Rattle.guest_runs.proofs.engine.follow.Goals as goal

pub loop-i-preserved : goal.loop-i-preserved
loop-i-preserved c =
    let more = go_all-take c.args.core.now c.args.script.now c.loop-i.i-index c.i-item.result (omega arith) c.i-item.is in
    c.go_on.ensures.one refl ∙ ap (λ w. go_of w c.i-item.result) c.loop-i.invariant ∙ sym more
