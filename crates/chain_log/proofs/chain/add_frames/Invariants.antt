use Rattle.std.proofs.Common.{◌≡◌, ◌-◌, ◌++◌, length}
use Rattle.chain_log.specs.Chain.{frame_places_from}
use Rattle.chain_log.proofs.chain.add_frames.Given as goal

abbrev pub invariant-frames : goal.invariant-frames
invariant-frames l =
    l.chain.items ++ frame_places_from l.ram l.csr l.mode (16 - length l.chain.items) l.f ≡ l.fn.chain.items ++ frame_places_from l.ram l.csr l.mode (16 - length l.fn.chain.items) l.fn.f

abbrev pub decreases-frames : goal.decreases-frames
decreases-frames l = 16 - length l.chain.items
