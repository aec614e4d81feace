use Rattle.elf_read.specs.Fields.{is_segment, segment_at}
use Rattle.elf_read.proofs.TableLemmas.{filtered_more}
use Rattle.elf_read.proofs.tables.segments.Goals as goal

pub loop-n-preserved : goal.loop-n-preserved
loop-n-preserved c =
    filtered_more is_segment (segment_at c.args.file.now c.args.header.now) c.loop-n.n c.loop-n.segments c.push_segment.new.segments c.read_program_header-segment.result
    c.loop-n.invariant c.read_program_header-segment.ensures c.in_ok-push_segment.ensures
