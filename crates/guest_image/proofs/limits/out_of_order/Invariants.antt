use Rattle.std.proofs.Common.{◌≡◌, drop}
use Rattle.guest_image.specs.Limits.{out_of_order}
use Rattle.guest_image.proofs.limits.out_of_order.Given as goal

abbrev pub invariant-loop-k : goal.invariant-loop-k
invariant-loop-k l = out_of_order l.low l.k (drop l.k l.events) ≡ out_of_order 0 0 l.events
