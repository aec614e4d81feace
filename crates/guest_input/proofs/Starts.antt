-- The order of starts is total, and starts that compare alike are one.
use Rattle.std.proofs.Common.{ℕ, ap}
use Rattle.std.specs.Cmp.{on_total, then_total}
use Rattle.std.specs.Ordering.{nat_cmp}
use Rattle.std.specs.Cmp.{nat_cmp_total}
use Rattle.std.proofs.lemmas.Map.Lookups.{exact_pairs, exact_unsigned}
use Rattle.guest_input.specs.declared.image.Start.{Start}
use Rattle.guest_input.specs.Starts.{StartsAreOrdered, EqualStartsAreOne}

pub starts_ordered : StartsAreOrdered
starts_ordered = then_total (on_total (λ (s : Start). s.range) nat_cmp_total) (on_total (λ (s : Start). s.offset) nat_cmp_total)

pub equal_one : EqualStartsAreOne
equal_one a b h = ap (λ (p : ℕ × ℕ). record { range = p.0; offset = p.1 }) (exact_pairs nat_cmp nat_cmp exact_unsigned exact_unsigned (a.range, a.offset) (b.range, b.offset) h)
