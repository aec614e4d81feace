use Rattle.std.proofs.Common.{◌≡◌, ◌<◌, drop}
use Rattle.fc_numbers.specs.Spans.{text_size, place_in}
use Rattle.fc_numbers.proofs.spans.place_of.Given as goal

abbrev pub invariant-loop-span : goal.invariant-loop-span
invariant-loop-span l = (place_in (drop l.span-index l.spans) l.left ≡ place_in l.spans l.offset)
    × (l.left < text_size (drop l.span-index l.spans))
