use Rattle.std.proofs.Common.{◌∙◌}
use Rattle.view_file.proofs.Texts.{name_utf8}
use Rattle.view_file.proofs.write.name_text.Goals as goal

pub returns : goal.returns
returns c = c.in_ok-from_utf8_lossy.ensures.ok (rw c.bytes.ensures.value (name_utf8 c.args.name.now c.bytes.ensures.named)) ∙ c.bytes.ensures.value
