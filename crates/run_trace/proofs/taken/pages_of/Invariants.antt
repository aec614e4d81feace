use Rattle.std.proofs.Common.{◌≡◌, take, map}
use Rattle.std.specs.List.{AllByRecursion}
use Rattle.trace_file.specs.Lawful.{IsDigest}
use Rattle.run_trace.specs.Told.{pages_digest}
use Rattle.run_trace.proofs.taken.pages_of.Given as goal

abbrev pub invariant-loop-view : goal.invariant-loop-view
invariant-loop-view l = record {
  value : l.pages.items ≡ map pages_digest (take l.view-index l.views);
  range : AllByRecursion IsDigest l.pages.items;
}
