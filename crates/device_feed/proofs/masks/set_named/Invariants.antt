use Rattle.std.proofs.Common.{◌≡◌}
use Rattle.device_feed.specs.Calls.{named, with_bits}
use Rattle.device_feed.proofs.masks.set_named.Given as goal

abbrev pub invariant-loop-k : goal.invariant-loop-k
invariant-loop-k l = l.soft ≡ with_bits l.fn.soft (named l.mask l.base l.k)
