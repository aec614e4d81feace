use Rattle.std.proofs.Common.{◌≡◌, ◌++◌}
use Rattle.std.specs.Prelude.{take}
use Rattle.chain_log.specs.Line.{chain_texts, spaced}
use Rattle.chain_log.proofs.line.push_places.Given as goal

abbrev pub invariant-loop-place : goal.invariant-loop-place
invariant-loop-place l = l.line.items ≡ l.fn.line.items ++ spaced (chain_texts l.image (take l.place-index l.places))
