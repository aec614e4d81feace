-- the search from here on finds what the whole search finds
use Rattle.std.proofs.Common.{◌≡◌, drop}
use Rattle.fc_outside.proofs.Files.{place_from}
use Rattle.fc_outside.proofs.memory.place_of.Given as goal

abbrev pub invariant-loop-i : goal.invariant-loop-i
invariant-loop-i l = place_from l.name l.i (drop l.i l.files) ≡ place_from l.name 0 l.files
