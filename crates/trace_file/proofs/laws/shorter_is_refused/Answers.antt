use Rattle.trace_file.proofs.CutLaws.{shorter_refused}
use Rattle.trace_file.proofs.laws.shorter_is_refused.Goals as goal

pub returns : goal.returns
returns c = shorter_refused
