use Rattle.switch_hook.specs.Hook.{address_after, byte_at}
use Rattle.switch_hook.proofs.Bytes.{AreRead}
use Rattle.switch_hook.proofs.name_at_address.Given as goal

abbrev pub invariant-loop-k : goal.invariant-loop-k
invariant-loop-k l = AreRead (λ n. byte_at l.ram l.csr (address_after l.at n)) l.name.items l.k
