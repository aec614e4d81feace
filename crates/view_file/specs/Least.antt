-- The least of listed starts that is no function's.
-- The rule is this project's own: views that list an unknown function are refused by the least such start.
use Rattle.std.specs.Prelude.{◌≡◌, Bool, true, false, List, Option, Some, None}
use Rattle.std.specs.List.{list_all, list_any}
use Rattle.std.specs.Ordering.{ord_min}
use Rattle.std.specs.declared.cmp.Ordering.TheVariants.{Less}
use Rattle.guest_input.specs.declared.image.Start.{Start}
use Rattle.guest_input.specs.Starts.{is_same, start_cmp}

abbrev pub contains : List Start → Start → Bool
contains starts at = list_any (is_same at) starts

-- the least listed start that is not known
pub record IsLeastUnknown (known : Start → Bool) (listed : List Start) (at : Start) : Type 0 where
  pub one : contains listed at ≡ true
  pub unknown : known at ≡ false
  pub least : (other : Start) → start_cmp other at ≡ Less → contains listed other ≡ true → known other ≡ true

-- all starts are known, or this is the least that is not
abbrev pub IsLeastOf : (Start → Bool) → List Start → Option Start → Type 0
IsLeastOf known listed None = list_all known listed ≡ true
IsLeastOf known listed (Some at) = IsLeastUnknown known listed at

abbrev pub lesser_of : Option Start → Option Start → Option Start
lesser_of None b = b
lesser_of (Some a) None = Some a
lesser_of (Some a) (Some b) = Some (ord_min start_cmp a b)
