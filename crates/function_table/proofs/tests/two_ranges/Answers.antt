use Rattle.std.proofs.Common.{ℕ, ◌<◌, List, length, length-set, subst, sym}
use Rattle.std.specs.Prelude.{Contains}
use Rattle.fc_numbers.specs.declared.places.Span.{Span}
use Rattle.guest_input.specs.Text.{bytes_before}
use Rattle.guest_input.specs.Accepted.{offsets_of}
use Rattle.function_table.proofs.TestKernels.{three_starts, two-heads, two-inside, two-ranges}
use Rattle.function_table.proofs.tests.two_ranges.Goals as goal

pub kernel-requires-clause-text : goal.kernel-requires-clause-text
kernel-requires-clause-text c = rw c.two_spans.ensures (two-ranges _ (simp length-set c.in_ok-bytes.ensures))

pub kernel-requires-clause-inside : goal.kernel-requires-clause-inside
kernel-requires-clause-inside c = rw c.two_spans.ensures two-inside

pub kernel-requires-clause-heads : goal.kernel-requires-clause-heads
kernel-requires-clause-heads c = subst (λ (ss : List Span). (n : ℕ) → n < length ss → Contains (offsets_of ss three_starts) (bytes_before ss n)) (sym c.two_spans.ensures) two-heads
