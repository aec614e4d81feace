use Rattle.std.proofs.Common.{arith}
use Rattle.code_listing.specs.Surface.{is_same_page}
use Rattle.code_listing.proofs.FigureLemmas.{count-more}
use Rattle.code_listing.proofs.surface.same_pages.Goals as goal
use Rattle.code_listing.proofs.surface.same_pages.Goals.{then-is_same_page, else-is_same_page}

pub loop-n-preserved : goal.loop-n-preserved
loop-n-preserved c =
    let more = count-more (is_same_page c.args.halves.now c.args.other.now) c.loop-n.n c.loop-n.total c.if-is_same_page.total c.is_same_page.result c.loop-n.invariant.count c.is_same_page.ensures in
    elim c.if-is_same_page.branch [
      | then-is_same_page w ↦ record { count = more (rw w.if-is_same_page.true w.total-is); most = omega (arith, w.total-is, c.loop-n.invariant.most) }
      | else-is_same_page w ↦ record { count = more (rw w.if-is_same_page.false (omega (arith, w.total-is))); most = omega (arith, w.total-is, c.loop-n.invariant.most) }
    ]
