use Rattle.std.proofs.Common.{map}
use Rattle.std.specs.Prelude.{string_bytes}
use Rattle.facechange_cli.proofs.command.make.Goals as goal

pub returns-in-Bench-clause-said : goal.returns-in-Bench-clause-said
returns-in-Bench-clause-said g c = rw c.in-Bench.is (λ told at. c.make_bench.ensures.said (map string_bytes c.args.words.now) told)

pub returns-in-Bench-clause-counted : goal.returns-in-Bench-clause-counted
returns-in-Bench-clause-counted g c = rw c.in-Bench.is (c.make_bench.ensures.counted (map string_bytes c.args.words.now) (g.S.Store.reads c.args.store.now))
