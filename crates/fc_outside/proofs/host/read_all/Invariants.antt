-- What was read is within the limit, and the reader had it before what it has left.
use Rattle.std.proofs.Common.{◌≤◌, vec_len, vec_items}
use Rattle.std.specs.Io.KnownBytes.{Consumes}
use Rattle.fc_outside.proofs.host.read_all.Given as goal

abbrev pub invariant-loop : goal.invariant-loop
invariant-loop g l = (vec_len l.bytes ≤ l.limit) × Consumes (g.F.Read.remaining l.initial.from) (g.F.Read.remaining l.from) (vec_items l.bytes)
