use Rattle.std.proofs.Common.{◌≡◌, ◌+◌, ◌*◌, ◌/◌, ◌++◌, ap, sym, subst, ◌∙◌, arith, take, take-add, length}
use lib.Lanes.{chunk}
use Rattle.lane_kernels.proofs.Lanes.{same_from}
use Rattle.lane_kernels.proofs.same.Goals as goal

pub loop-k-preserved : goal.loop-k-preserved
loop-k-preserved c =
    let next : 32 * (c.loop-k.k + 1) ≡ 32 * c.loop-k.k + 32 = omega arith in
    let inv : take (32 * c.loop-k.k) c.args.a.now ≡ take (32 * c.loop-k.k) c.args.b.now = c.loop-k.invariant in
    let here : chunk (32 * c.loop-k.k) 32 c.args.a.now ≡ chunk (32 * c.loop-k.k) 32 c.args.b.now = c.if-not-same_vector.ensures in
    subst (λ n. take n c.args.a.now ≡ take n c.args.b.now) (sym next)
    (take-add (32 * c.loop-k.k) 32 c.args.a.now ∙ ap (λ l. l ++ chunk (32 * c.loop-k.k) 32 c.args.a.now) inv
    ∙ ap (λ l. take (32 * c.loop-k.k) c.args.b.now ++ l) here ∙ sym (take-add (32 * c.loop-k.k) 32 c.args.b.now))

pub returns : goal.returns
returns c =
    let xs = c.args.a.now in
    let ys = c.args.b.now in
    let vectors : c.loop-k.k ≡ length xs / 32 = omega (arith, c.loop-k-test.false, c.loop-k.auto.k-end) in
    let front : take (32 * (length xs / 32)) xs ≡ take (32 * (length xs / 32)) ys = subst (λ k. take (32 * k) xs ≡ take (32 * k) ys) vectors c.loop-k.invariant in
    same_from (32 * (length xs / 32)) _ xs ys front c.same_one_by_one.ensures
