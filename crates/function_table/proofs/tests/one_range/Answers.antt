use Rattle.std.proofs.Common.{◌≡◌, ◌*◌, [], ◌∷◌, arith}
use Rattle.fc_numbers.specs.declared.places.TheConstants.{RAM_START}
use Rattle.fc_numbers.specs.Spans.{text_size}
use Rattle.function_table.proofs.TestKernels.{first-heads, first-inside, first-offsets, one-range, pages_at}
use Rattle.function_table.proofs.tests.one_range.Goals as goal

pub kernel-requires-clause-text : goal.kernel-requires-clause-text
kernel-requires-clause-text c = rw c.one_span.ensures (one-range c.args.count _ c.requires.some c.requires.most c.in_ok-bytes.ensures)

pub kernel-requires-clause-inside : goal.kernel-requires-clause-inside
kernel-requires-clause-inside c = rw (c.one_span.ensures, c.as_slice.ensures.value, c.in_ok-starts.ensures) (first-inside c.args.count c.args.offsets.now c.requires.some c.requires.starts)

pub kernel-requires-clause-starts : goal.kernel-requires-clause-starts
kernel-requires-clause-starts c =
    let size : text_size (pages_at RAM_START c.args.count ∷ []) ≡ c.args.count * 4096 = omega arith in
    rw (c.one_span.ensures, c.as_slice.ensures.value, c.in_ok-starts.ensures, first-offsets, size) c.requires.starts

pub kernel-requires-clause-heads : goal.kernel-requires-clause-heads
kernel-requires-clause-heads c =
    rw (c.one_span.ensures, c.as_slice.ensures.value, c.in_ok-starts.ensures) (λ n within. first-heads _ c.args.offsets.now _ n c.requires.starts within)
