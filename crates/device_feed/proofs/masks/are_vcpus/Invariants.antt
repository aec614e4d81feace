use Rattle.std.proofs.Common.{◌≡◌, true}
use Rattle.std.specs.Prelude.{nat_lt}
use Rattle.std.specs.List.{list_all}
use Rattle.device_feed.specs.Calls.{named}
use Rattle.device_feed.proofs.masks.are_vcpus.Given as goal

abbrev pub invariant-loop-k : goal.invariant-loop-k
invariant-loop-k l = list_all (λ n. nat_lt n l.vcpus) (named l.mask l.base l.k) ≡ true
