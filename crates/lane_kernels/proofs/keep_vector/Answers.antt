use Rattle.std.proofs.Common.{eqb, ap, ◌∙◌, w16, replicate, get_or}
use lib.Lanes.{sel_l, chunk, put_chunk}
use Rattle.std.proofs.lemmas.Simd.{tops_compared, length-chunk}
use Rattle.lane_kernels.proofs.Lanes.{chosen, stored}
use Rattle.lane_kernels.proofs.keep_vector.Goals as goal

pub returns-clause-each : goal.returns-clause-each
returns-clause-each c n =
    let at = c.args.at in
    let ks = chunk at 32 c.args.keep.now in
    let xs = chunk at 32 c.args.src.now in
    let kept = ap (λ ms. sel_l ms (replicate 32 0) xs) (tops_compared w16 eqb ks (replicate 32 0))
    ∙ chosen 32 xs ks (length-chunk at 32 c.args.keep.now c.requires.keep) (length-chunk at 32 c.args.src.now c.requires.src) in
    ap (λ vs. get_or (put_chunk at c.args.out.now vs) n 0) kept ∙ stored c.args.src.now c.args.keep.now c.args.out.now at c.requires.src c.requires.keep c.requires.out n
