-- the search from here on finds what the whole search finds
use Rattle.std.proofs.Common.{◌≡◌, drop}
use Rattle.fc_outside.specs.Memory.{listed_part}
use Rattle.fc_outside.proofs.memory_sink.listed_part.Given as goal

abbrev pub invariant-loop-at : goal.invariant-loop-at
invariant-loop-at l = listed_part (drop l.at-index l.failing) l.number ≡ listed_part l.failing l.number
