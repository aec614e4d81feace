use Rattle.std.proofs.Common.{sym, subst}
use Rattle.guest_input.specs.Accepted.{IsImage}
use Rattle.guest_image.specs.Digest.{digest_of}
use Rattle.guest_image.proofs.image_file.read_image.Goals as goal

pub returns-clause-lawful : goal.returns-clause-lawful
returns-clause-lawful c = subst IsImage (sym c.with_digest.ensures) (c.in_ok-kernel.ensures.image (digest_of c.in_ok-kernel.kernel))
