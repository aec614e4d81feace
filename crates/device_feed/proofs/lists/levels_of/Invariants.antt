use Rattle.std.proofs.Common.{◌≡◌, ◌++◌, drop}
use Rattle.device_feed.specs.Lists.{levels_from, no_levels}
use Rattle.device_feed.proofs.lists.levels_of.Given as goal

abbrev pub invariant-loop-event : goal.invariant-loop-event
invariant-loop-event l = l.all.items ++ levels_from l.levels (drop l.event-index l.events) ≡ levels_from no_levels l.events
