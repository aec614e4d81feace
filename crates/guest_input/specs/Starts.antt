-- The order of starts: by range, and in one range by offset.
use Rattle.std.specs.Prelude.{◌≡◌, ◌==◌, ◌&&◌, Bool}
use Rattle.std.specs.Cmp.{IsTotalOrder}
use Rattle.std.specs.Ordering.{nat_cmp, ordering_then}
use Rattle.std.specs.declared.cmp.Ordering.{Ordering}
use Rattle.std.specs.declared.cmp.Ordering.TheVariants.{Equal}
use Rattle.guest_input.specs.declared.image.Start.{Start}

abbrev pub start_cmp : Start → Start → Ordering
start_cmp a b = ordering_then (nat_cmp a.range b.range) (nat_cmp a.offset b.offset)

abbrev pub is_same : Start → Start → Bool
is_same a b = (a.range == b.range) && (a.offset == b.offset)

-- of any two starts that are not one, one is below the other
abbrev pub StartsAreOrdered : Type 0
StartsAreOrdered = IsTotalOrder start_cmp

abbrev pub EqualStartsAreOne : Type 0
EqualStartsAreOne = (a b : Start) → start_cmp a b ≡ Equal → a ≡ b
