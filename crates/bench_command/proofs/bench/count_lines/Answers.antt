use Rattle.std.proofs.Common.{◌≡◌, ◌∙◌, append_assoc}
use Rattle.bench_command.proofs.bench.count_lines.Goals as goal

pub returns : goal.returns
returns c = c.in_ok-format.ensures.ok ∙ simp append_assoc
