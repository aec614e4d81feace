use Rattle.std.proofs.Common.{arith, ◌∙◌}
use Rattle.run_trace.specs.Told.{IsEntryInRange}
use Rattle.run_trace.proofs.Pushed.{all-pushed, one-more}
use Rattle.run_trace.proofs.taken.push_log.Goals as goal

pub loop-entry-preserved : goal.loop-entry-preserved
loop-entry-preserved c = record {
  value = one-more _ _ _ _ _ _ _ c.in_ok-push.ensures.items c.loop-entry.invariant.value c.entry_of.ensures.value c.entry-item.is (omega arith);
  range = λ before. all-pushed IsEntryInRange _ _ _ c.in_ok-push.ensures.items (c.loop-entry.invariant.range before) c.entry_of.ensures.range;
}
