use Rattle.std.proofs.Common.{◌≡◌, map}
use Rattle.std.specs.List.{AllByRecursion, range_with_len}
use Rattle.trace_file.specs.Lawful.{IsState}
use Rattle.run_trace.specs.Told.{vcpu_state}
use Rattle.run_trace.proofs.taken.states_of.Given as goal

abbrev pub invariant-loop-i : goal.invariant-loop-i
invariant-loop-i l = record {
  value : l.states.items ≡ map (vcpu_state l.board.state) (range_with_len 0 l.i);
  range : AllByRecursion IsState l.states.items;
}
