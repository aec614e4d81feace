-- The walk of a list of 8-byte entries, the root first (privileged manual, "Sv39x4: Page-Based 41-bit Virtual-Memory System" and "Sv48x4: Page-Based 50-bit Virtual-Memory System").
-- The list is a whole number of pages of 512 entries, and a pointer names the table below by its page number in the list.
use Rattle.std.specs.Prelude.{ℕ, ◌+◌, ◌*◌, ◌/◌, ◌%◌, ◌^◌, ◌==◌, ◌&&◌, ◌||◌, not, nat_lt, Bool, if◌then◌else◌, Option, None, Some, List, slice_index}
use Rattle.std.proofs.Common.{zero, suc}
use Rattle.fc_numbers.specs.declared.machine.GKind.{GKind}
use Rattle.fc_numbers.specs.declared.machine.GKind.TheVariants.{Sv39x4, Sv48x4}
use Rattle.gstage.specs.declared.walk.Leaf.{Leaf}
use Rattle.page_table.specs.declared.TheConstants.{PTE_V, PTE_R, PTE_W, PTE_X, PTE_U, PTE_A, PTE_D}
use Rattle.page_table.specs.Entry.{has_bit, is_leaf, ppn}
use Rattle.page_table.specs.Level.{index_at}

-- V = 1, not W without R, and the ten highest bits are zero
abbrev pub is_valid : ℕ → Bool
is_valid entry = has_bit entry PTE_V && not (has_bit entry PTE_W && not (has_bit entry PTE_R)) && nat_lt entry (2 ^ 54)

-- the page that a leaf of a level maps a place to, and what may be done there: a store needs D as well as W
abbrev pub leaf_of : ℕ → ℕ → ℕ → Leaf
leaf_of level at entry = record { level = level; page = ppn entry + at / 2 ^ 12 % 512 ^ level; read = has_bit entry PTE_R; write = has_bit entry PTE_W && has_bit entry PTE_D; execute = has_bit entry PTE_X; user = has_bit entry PTE_U }

-- a leaf is aligned to its size, and has A set
abbrev pub is_usable : ℕ → ℕ → Bool
is_usable level entry = has_bit entry PTE_A && (ppn entry % 512 ^ level == 0)

-- a pointer has none of U, A and D
abbrev pub is_pointer : ℕ → Bool
is_pointer entry = not (has_bit entry PTE_U || has_bit entry PTE_A || has_bit entry PTE_D)

abbrev pub leaf_at : ℕ → ℕ → ℕ → Option Leaf
leaf_at level at entry = if is_usable level entry then Some (leaf_of level at entry) else None

-- the walk from an entry of a level on; the lowest level is 0
unfoldable pub walked_from : List ℕ → ℕ → ℕ → ℕ → Option Leaf
walked_from entries at zero entry =
    if is_valid entry && is_leaf entry then leaf_at 0 at entry else None
walked_from entries at (suc level) entry =
    if is_valid entry then
    if is_leaf entry then leaf_at (suc level) at entry
    else if is_pointer entry then walked_from entries at level (slice_index entries (512 * ppn entry + index_at level at))
    else None
    else None

-- the level of the root
abbrev pub top : GKind → ℕ
top Sv39x4 = 2
top Sv48x4 = 3

-- how many bits a place has
abbrev pub bits : GKind → ℕ
bits Sv39x4 = 41
bits Sv48x4 = 50

-- the root has an entry for each number that the highest 11 bits of a place may have
abbrev pub walked_leaf : GKind → List ℕ → ℕ → Option Leaf
walked_leaf kind entries at =
    if nat_lt at (2 ^ bits kind) then walked_from entries at (top kind) (slice_index entries (at / 2 ^ (12 + 9 * top kind)))
    else None
