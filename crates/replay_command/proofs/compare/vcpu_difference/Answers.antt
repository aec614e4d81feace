use Rattle.std.proofs.Common.{◌<◌, length, arith}
use Rattle.replay_command.proofs.Vcpus.{vcpu-found, vcpu-none}
use Rattle.replay_command.proofs.compare.vcpu_difference.Goals as goal

pub returns-in-Some-clause-value : goal.returns-in-Some-clause-value
returns-in-Some-clause-value c =
    let within : c.loop-i.i < length c.args.states.now = omega (arith, c.loop-i-test.true, c.vcpus-i-end.ensures, c.requires) in
    vcpu-found c.args.board.now.state c.args.states.now c.loop-i.i c.vcpu_state-left.result _ c.in-Some.difference c.loop-i.invariant c.vcpu_state-left.ensures.value within c.in-Some.ensures.value

pub loop-i-preserved : goal.loop-i-preserved
loop-i-preserved c =
    let within : c.loop-i.i < length c.args.states.now = omega (arith, c.loop-i-test.true, c.vcpus-i-end.ensures, c.requires) in
    vcpu-none c.args.board.now.state c.args.states.now c.loop-i.i c.vcpu_state-left.result _ c.loop-i.invariant c.vcpu_state-left.ensures.value within c.in-None.ensures.value
