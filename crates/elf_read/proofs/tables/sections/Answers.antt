use Rattle.elf_read.specs.Fields.{section_at}
use Rattle.elf_read.proofs.TableLemmas.{mapped_more}
use Rattle.elf_read.proofs.tables.sections.Goals as goal

pub loop-n-preserved : goal.loop-n-preserved
loop-n-preserved c =
    mapped_more (section_at c.args.file.now c.args.header.now) c.loop-n.n c.loop-n.sections c.push.new.self c.read_section_header.result
    c.loop-n.invariant c.read_section_header.ensures c.in_ok-push.ensures.ok
