use Rattle.std.proofs.Common.{◌≡◌, take}
use Rattle.run_trace.specs.Told.{bytes_of_halves}
use Rattle.run_trace.proofs.parts.page_bytes.Given as goal

abbrev pub invariant-loop-half : goal.invariant-loop-half
invariant-loop-half l = l.bytes.items ≡ bytes_of_halves (take l.half-index l.halves)
