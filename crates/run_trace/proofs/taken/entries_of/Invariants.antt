use Rattle.std.proofs.Common.{◌≡◌, take}
use Rattle.std.specs.List.{AllByRecursion, flat_map}
use Rattle.run_trace.specs.Told.{IsEntryInRange}
use Rattle.run_trace.proofs.taken.entries_of.Given as goal

abbrev pub invariant-loop-view : goal.invariant-loop-view
invariant-loop-view l = record {
  value : l.entries.items ≡ flat_map (λ p. p.log) (take l.view-index l.views);
  range : AllByRecursion IsEntryInRange l.entries.items;
}
