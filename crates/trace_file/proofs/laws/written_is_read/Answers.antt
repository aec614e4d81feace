use Rattle.trace_file.proofs.TraceLaws.{text_again}
use Rattle.trace_file.proofs.laws.written_is_read.Goals as goal

pub returns : goal.returns
returns c = text_again
