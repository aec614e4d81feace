-- The range of a group lies within text.
use Rattle.std.proofs.Common.{◌≡◌, ℕ, zero, suc, ◌+◌, ◌-◌, ◌<◌, ◌≤◌, true, arith}
use Rattle.std.proofs.lemmas.Bool.Decides.{nat_tests}
use Rattle.fc_numbers.specs.declared.places.Span.{Span}
use Rattle.fc_numbers.specs.declared.places.TheConstants.{RAM_START}
use Rattle.fc_numbers.specs.Spans.{offset_in, text_size}
use Rattle.fc_numbers.specs.SpanLaws.{OffsetsAreBelow, OffsetsRise}
use Rattle.function_table.specs.Groups.{Groups, IsGroups, IsRangeOf, in_groups_text}

-- each place of the range is of text
place-inside : (t : Groups) (g d : ℕ) (s : Span) → IsRangeOf t g s → s.start + d < s.end → in_groups_text t (s.start + d) ≡ true
place-inside t g d s range within = range.inside (s.start + d) (grind (arith, nat_tests, within))

-- offsets go on with the places of the range, at least
offsets-rise : (t : Groups) (g d : ℕ) (s : Span) → OffsetsRise → IsGroups t → IsRangeOf t g s → s.start + d < s.end
    → offset_in t.text s.start + d ≤ offset_in t.text (s.start + d)
offsets-rise t g zero s rise good range within =
    let same : s.start + 0 ≡ s.start = omega arith in
    let none : offset_in t.text s.start + 0 ≤ offset_in t.text s.start = omega arith in
    rw same none
offsets-rise t g (suc d) s rise good range within =
    let before : s.start + d < s.end = omega (arith, within) in
    let last = offsets-rise t g d s rise good range before in
    let next : offset_in t.text (s.start + d) < offset_in t.text (s.start + suc d) =
    rise t.text RAM_START (s.start + d) (s.start + suc d) good.text.ranges (omega arith) (place-inside t g d s range before) (place-inside t g (suc d) s range within) in
    omega (arith, last, next)

pub range-within : (t : Groups) (g : ℕ) (s : Span) → OffsetsRise → OffsetsAreBelow → IsGroups t → IsRangeOf t g s
    → offset_in t.text s.start + (s.end - s.start) ≤ text_size t.text
range-within t g s rise below good range =
    let d = s.end - s.start - 1 in
    let within : s.start + d < s.end = omega (arith, range.some) in
    let last = offsets-rise t g d s rise good range within in
    let high : offset_in t.text (s.start + d) < text_size t.text = below t.text RAM_START (s.start + d) good.text.ranges (place-inside t g d s range within) in
    omega (arith, last, high, range.some)
