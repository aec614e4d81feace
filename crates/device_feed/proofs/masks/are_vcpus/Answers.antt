use Rattle.std.proofs.Common.{sym, refl}
use Rattle.device_feed.proofs.Bits.{named_set, named_clear, named_none, unknown}
use Rattle.device_feed.proofs.masks.are_vcpus.Goals as goal
use Rattle.device_feed.proofs.masks.are_vcpus.Goals.{else-has_bit-via-then-has_bit+else-not-is_below, else-has_bit-via-else-has_bit}

pub loop-k-init : goal.loop-k-init
loop-k-init c = rw (named_none c.args.mask c.args.base) refl

pub returns-then-not-is_below : goal.returns-then-not-is_below
returns-then-not-is_below c =
    sym (unknown c.args.vcpus c.args.mask c.args.base 64 c.loop-k.k c.loop-k-test.true (sym c.if-has_bit.ensures) (sym c.if-not-is_below.ensures))

pub loop-k-preserved : goal.loop-k-preserved
loop-k-preserved c =
    elim c.else-has_bit.branch [
      | else-has_bit-via-then-has_bit+else-not-is_below w ↦
          rw (named_set c.args.mask c.args.base c.loop-k.k (sym w.if-has_bit.ensures), ← w.if-not-is_below.ensures) c.loop-k.invariant
      | else-has_bit-via-else-has_bit w ↦
          rw (named_clear c.args.mask c.args.base c.loop-k.k (sym w.if-has_bit.ensures)) c.loop-k.invariant
    ]
