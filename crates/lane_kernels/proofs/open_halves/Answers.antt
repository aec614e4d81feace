use Rattle.std.proofs.Common.{◌+◌, ◌*◌, ◌≡◌, ap, ◌∙◌, arith, take, length, ◌/◌, ◌-◌}
use Rattle.std.specs.Prelude.{count_by}
use Rattle.std.proofs.lemmas.List.{take_all}
use Rattle.lane_kernels.specs.Kernels.{is_open}
use Rattle.lane_kernels.proofs.Lanes.{count_more}
use Rattle.lane_kernels.proofs.open_halves.Goals as goal

pub loop-k-preserved : goal.loop-k-preserved
loop-k-preserved c =
    let xs = c.args.src.now in
    let more = count_more xs (32 * c.loop-k.k) 32 in
    let next : 32 * (c.loop-k.k + 1) ≡ 32 * c.loop-k.k + 32 = omega arith in
    let value = c.open_in_vector.ensures.value in
    let most = c.open_in_vector.ensures.most in
    let inv = c.loop-k.invariant in
    (rw next (omega (arith, more, value, inv.0)), omega (arith, most, inv.1))

pub returns : goal.returns
returns c =
    let xs = c.args.src.now in
    let vectors : c.loop-k.k ≡ length xs / 32 = omega (arith, c.loop-k-test.false, c.loop-k.auto.k-end) in
    let at : 32 * c.loop-k.k ≡ 32 * (length xs / 32) = ap (λ n. 32 * n) vectors in
    let more = count_more xs (32 * (length xs / 32)) (length xs - 32 * (length xs / 32)) in
    let end : 32 * (length xs / 32) + (length xs - 32 * (length xs / 32)) ≡ length xs = omega arith in
    let all : count_by is_open (take (32 * (length xs / 32) + (length xs - 32 * (length xs / 32))) xs) ≡ count_by is_open xs =
    ap (λ n. count_by is_open (take n xs)) end ∙ ap (λ l. count_by is_open l) (take_all (length xs) xs (omega arith)) in
    let so_far : c.loop-k.total ≡ count_by is_open (take (32 * (length xs / 32)) xs) = c.loop-k.invariant.0 ∙ ap (λ n. count_by is_open (take n xs)) at in
    omega (arith, so_far, c.open_one_by_one.ensures, more, all)
