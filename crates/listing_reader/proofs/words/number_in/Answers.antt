use Rattle.std.proofs.Common.{◌<◌, arith}
use Rattle.listing_reader.proofs.Numbers.{digits-fit}
use Rattle.listing_reader.proofs.words.number_in.Goals as goal

pub overflow_mul-n : goal.overflow_mul-n
overflow_mul-n c = omega (arith, digits-fit c.args.base c.loop-byte.n c.loop-byte.byte-index c.digit_value-digit.result c.requires.base c.loop-byte.invariant.below (omega arith) (omega arith))

pub overflow_add-n : goal.overflow_add-n
overflow_add-n c = omega (arith, digits-fit c.args.base c.loop-byte.n c.loop-byte.byte-index c.digit_value-digit.result c.requires.base c.loop-byte.invariant.below (omega arith) (omega arith))
