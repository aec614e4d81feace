use Rattle.std.proofs.Common.{◌≡◌, ◌∙◌, ◌≤◌, ◌+◌, length, sym, refl, true, arith, ap}
use Rattle.std.specs.Prelude.{slice_set}
use Rattle.std.proofs.lemmas.List.{set_past}
use Rattle.device_feed.proofs.Bits.{named_set, named_clear, named_none, not_below}
use Rattle.device_feed.proofs.masks.set_named.Goals as goal
use Rattle.device_feed.proofs.masks.set_named.Goals.{then-has_bit+then-is_below, else-has_bit, else-has_bit-via-then-has_bit+else-is_below, else-has_bit-via-else-has_bit}

pub loop-k-init : goal.loop-k-init
loop-k-init c = rw (named_none c.args.mask c.args.base) refl

pub loop-k-preserved : goal.loop-k-preserved
loop-k-preserved c =
    elim c.if-has_bit.branch [
      | then-has_bit+then-is_below w ↦
          rw (w.soft-is, named_set c.args.mask c.args.base c.loop-k.k (sym w.if-has_bit.ensures)) (ap (λ s. slice_set s (c.args.base + c.loop-k.k) true) c.loop-k.invariant)
      | else-has_bit w ↦
          elim w.else-has_bit.branch [
            | else-has_bit-via-then-has_bit+else-is_below w' ↦
                let past : length c.loop-k.soft ≤ c.args.base + c.loop-k.k =
                omega (arith, not_below (c.args.base + c.loop-k.k) (length c.args.soft.now) (sym w'.if-is_below.ensures)) in
                let same : slice_set c.loop-k.soft (c.args.base + c.loop-k.k) true ≡ c.loop-k.soft = set_past c.loop-k.soft (c.args.base + c.loop-k.k) true past in
                rw (w.soft-is, named_set c.args.mask c.args.base c.loop-k.k (sym w'.if-has_bit.ensures)) (sym same ∙ ap (λ s. slice_set s (c.args.base + c.loop-k.k) true) c.loop-k.invariant)
            | else-has_bit-via-else-has_bit w' ↦
                rw (w.soft-is, named_clear c.args.mask c.args.base c.loop-k.k (sym w'.if-has_bit.ensures)) c.loop-k.invariant
          ]
    ]
