use Rattle.std.proofs.Common.{◌≡◌, ◌++◌, take}
use Rattle.std.specs.List.{AllByRecursion}
use Rattle.run_trace.specs.Told.{IsEntryInRange}
use Rattle.run_trace.proofs.taken.push_log.Given as goal

abbrev pub invariant-loop-entry : goal.invariant-loop-entry
invariant-loop-entry l = record {
  value : l.entries.items ≡ l.initial.entries.items ++ take l.entry-index l.log;
  range : AllByRecursion IsEntryInRange l.initial.entries.items → AllByRecursion IsEntryInRange l.entries.items;
}
