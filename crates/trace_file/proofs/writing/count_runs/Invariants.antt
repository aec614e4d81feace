use Rattle.std.proofs.Common.{◌≤◌, ◌+◌, drop}
use Rattle.trace_file.specs.Runs.{runs_from}
use Rattle.trace_file.proofs.RunLaws.{AreCounted}
use Rattle.trace_file.proofs.writing.count_runs.Given as goal

abbrev pub invariant-rest : goal.invariant-rest
invariant-rest l = record {
  few : l.runs ≤ l.vcpu-index + 1;
  counted : AreCounted (runs_from l.first 1 l.fn.rest) (drop l.vcpu-index l.rest) l.last l.runs;
}
