use Rattle.std.proofs.Common.{◌≡◌, ◌++◌, drop}
use Rattle.device_feed.specs.Lists.{due_keys_of}
use Rattle.device_feed.proofs.lists.keys_of.Given as goal

abbrev pub invariant-loop-event : goal.invariant-loop-event
invariant-loop-event l = l.keys.items ++ due_keys_of (drop l.event-index l.events) ≡ due_keys_of l.events
