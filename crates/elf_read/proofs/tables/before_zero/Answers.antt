use Rattle.std.proofs.Common.{sym}
use Rattle.elf_read.proofs.TableLemmas.{before_some, before_none}
use Rattle.elf_read.proofs.tables.before_zero.Goals as goal

pub returns-in-Some : goal.returns-in-Some
returns-in-Some c = before_some c.args.bytes.now c.in-Some.end (sym c.in-Some.ensures.place)

pub returns-in-None : goal.returns-in-None
returns-in-None c = before_none c.args.bytes.now (sym c.in-None.ensures.place)
