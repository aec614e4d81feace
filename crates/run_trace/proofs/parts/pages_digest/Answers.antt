use Rattle.std.proofs.Common.{◌≡◌, ◌∙◌, ap, length}
use Rattle.sha2.proofs.Facts256.{length-sha256}
use Rattle.run_trace.proofs.parts.pages_digest.Goals as goal

pub returns-clause-range : goal.returns-clause-range
returns-clause-range c = (ap (λ xs. length xs) c.digest-digest.ensures ∙ length-sha256 _, c.are_bytes.ensures)
