use Rattle.std.proofs.Common.{◌≡◌, ◌+◌, ◌-◌, ◌*◌, arith}
use Rattle.code_listing.specs.Surface.{page_of}
use Rattle.code_listing.proofs.FigureLemmas.{same-pointwise}
use Rattle.code_listing.proofs.surface.is_same_page.Goals as goal

pub returns : goal.returns
returns c =
    let size : 2048 * c.args.n + 2048 - 2048 * c.args.n ≡ 2048 = omega arith in
    same-pointwise c.same.result (page_of c.args.halves.now c.args.n) (page_of c.args.other.now c.args.n) (rw size at c.same.ensures)
