use Rattle.std.proofs.Common.{◌≡◌, ◌≤◌, ◌+◌, ◌-◌, drop}
use Rattle.fc_numbers.specs.Spans.{text_size, end_in}
use Rattle.fc_numbers.proofs.spans.end_of.Given as goal

abbrev pub invariant-loop-span : goal.invariant-loop-span
invariant-loop-span l = (l.before + end_in (drop l.span-index l.spans) (l.offset - l.before) ≡ end_in l.spans l.offset)
    × (l.before + text_size (drop l.span-index l.spans) ≡ text_size l.spans)
    × (l.before ≤ l.offset)
