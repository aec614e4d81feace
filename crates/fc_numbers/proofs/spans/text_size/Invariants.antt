use Rattle.std.proofs.Common.{◌≡◌, ◌+◌, drop}
use Rattle.fc_numbers.specs.Spans.{text_size}
use Rattle.fc_numbers.proofs.spans.text_size.Given as goal

abbrev pub invariant-loop-span : goal.invariant-loop-span
invariant-loop-span l = l.size + text_size (drop l.span-index l.spans) ≡ text_size l.spans
