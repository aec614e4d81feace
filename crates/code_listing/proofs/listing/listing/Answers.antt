use Rattle.std.proofs.Common.{sym}
use Rattle.code_listing.specs.Listing.{text_of_group}
use Rattle.code_listing.proofs.LineLemmas.{flat-more}
use Rattle.code_listing.proofs.listing.listing.Goals as goal

pub loop-g-preserved : goal.loop-g-preserved
loop-g-preserved c =
    rw (c.in_ok-push_group.ensures, c.loop-g.invariant) (sym (flat-more (text_of_group c.args.image.now c.args.view.now) c.loop-g.g))
