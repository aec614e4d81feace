use Rattle.rv_step.proofs.Keeps.{did_keeps_text}
use Rattle.rv_step.proofs.laws.text_is_kept.Goals as goal

pub returns : goal.returns
returns c = did_keeps_text
