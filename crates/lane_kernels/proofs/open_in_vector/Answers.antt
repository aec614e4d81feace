use Rattle.std.proofs.Common.{ℕ, eqb, ap, ◌∙◌, arith, w16, bit_and, ◌%◌, map, cond}
use Rattle.std.specs.Prelude.{replicate}
use Rattle.std.proofs.lemmas.List.Sums.{count_by-le-length}
use lib.Count.{ones}
use lib.Lanes.{zip2, chunk, mask_l, top}
use mir.Val.{hbits}
use Rattle.std.proofs.lemmas.Simd.{bitmask_splat, ones-mask_l, zip2_splat, length-chunk}
use Rattle.lane_kernels.specs.Kernels.{is_open}
use Rattle.lane_kernels.proofs.Lanes.{low_is, count_low, length-low}
use Rattle.lane_kernels.proofs.open_in_vector.Goals as goal

pub returns-clause-value : goal.returns-clause-value
returns-clause-value c =
    let xs = chunk c.args.at 32 c.args.src.now in
    let long = length-chunk c.args.at 32 c.args.src.now c.requires in
    let low = zip2_splat bit_and xs 32 3 long ∙ low_is xs in
    ap (λ vs. ones (mask_l (map (top (hbits w16)) (zip2 (λ (a b : ℕ). cond (eqb a b) 65535 0) vs (replicate 32 3))) % 18446744073709551616)) low
    ∙ ap ones (bitmask_splat w16 eqb (map (λ x. x % 4) xs) 32 3 (length-low xs ∙ long) (omega arith))
    ∙ ones-mask_l (λ x. eqb x 3) (map (λ x. x % 4) xs)
    ∙ count_low xs

pub returns-clause-most : goal.returns-clause-most
returns-clause-most c =
    let xs = chunk c.args.at 32 c.args.src.now in
    omega (arith, returns-clause-value c, count_by-le-length is_open xs, length-chunk c.args.at 32 c.args.src.now c.requires)
