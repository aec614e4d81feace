use Rattle.std.proofs.Common.{arith}
use Rattle.std.proofs.lemmas.List.FromFn.{map-range_with_len_more}
use Rattle.trace_file.specs.Lawful.{IsState}
use Rattle.run_trace.specs.Told.{vcpu_state}
use Rattle.run_trace.proofs.Pushed.{all-pushed}
use Rattle.run_trace.proofs.taken.states_of.Goals as goal

pub loop-i-preserved : goal.loop-i-preserved
loop-i-preserved c =
    let more = map-range_with_len_more (vcpu_state c.args.board.now.state) 0 c.loop-i.i c.loop-i.i (omega arith) in
    let pushed = c.in_ok-push.ensures.items in
    let before = c.loop-i.invariant.value in
    record { value = cc; range = all-pushed IsState _ _ _ pushed c.loop-i.invariant.range c.vcpu_state.ensures.range }
