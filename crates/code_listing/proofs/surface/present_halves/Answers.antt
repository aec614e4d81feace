use Rattle.std.proofs.Common.{arith, refl}
use Rattle.code_listing.specs.Surface.{present_size}
use Rattle.code_listing.proofs.FigureLemmas.{sum-more}
use Rattle.code_listing.proofs.surface.present_halves.Goals as goal
use Rattle.code_listing.proofs.surface.present_halves.Goals.{then-present, else-present}

pub loop-g-preserved : goal.loop-g-preserved
loop-g-preserved c =
    let so_far = c.loop-g.invariant.sum in
    elim c.if-present.branch [
      | then-present w ↦ record {
        sum = sum-more (present_size c.args.view.now) c.loop-g.g c.loop-g.total c.if-present.total w.group_size.result so_far
            (rw (← c.present.ensures, w.if-present.true, c.requires) w.group_size.ensures.value) w.total-is;
        most = omega (arith, w.total-is, w.group_size.ensures.few, c.loop-g.invariant.most);
      }
      | else-present w ↦ record {
        sum = sum-more (present_size c.args.view.now) c.loop-g.g c.loop-g.total c.if-present.total 0 so_far
            (rw (← c.present.ensures, w.if-present.false) refl) (omega (arith, w.total-is));
        most = omega (arith, w.total-is, c.loop-g.invariant.most);
      }
    ]
