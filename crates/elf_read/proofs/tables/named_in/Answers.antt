use Rattle.elf_read.specs.Fields.{named_of, symbol_at}
use Rattle.elf_read.proofs.TableLemmas.{flat_more}
use Rattle.elf_read.proofs.tables.named_in.Goals as goal

pub loop-n-preserved : goal.loop-n-preserved
loop-n-preserved c =
    flat_more (symbol_at c.args.file.now c.args.table.now) (named_of c.args.code.now c.args.strings.now) c.loop-n.n c.loop-n.named c.push_symbol.new.named c.read_symbol-symbol.result
    c.loop-n.invariant c.read_symbol-symbol.ensures c.in_ok-push_symbol.ensures
