use Rattle.std.proofs.Common.{◌∙◌, length, replicate, sym, true, arith}
use Rattle.std.proofs.lemmas.List.{same_lists, length-replicate, get_or-replicate}
use Rattle.device_feed.proofs.masks.set_all.Goals as goal

pub returns : goal.returns
returns c =
    same_lists c.loop-bit.soft (replicate (length c.args.soft.now) true)
    (omega (arith, length-replicate (length c.args.soft.now) true))
    (λ k d h. c.loop-bit.invariant k d (omega arith) ∙ sym (get_or-replicate (length c.args.soft.now) k true d (omega arith)))
