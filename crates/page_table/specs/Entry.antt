-- One page-table entry: its bits, its page number, and whether it is a leaf.
-- Privileged manual, "Sv39: Page-Based 39-bit Virtual-Memory System"; Sv48 and the second stage have the same entries.
use Rattle.std.specs.Prelude.{ℕ, ◌*◌, ◌/◌, ◌%◌, ◌^◌, Bool, ◌||◌, nat_eq}
use Rattle.page_table.specs.declared.TheConstants.{PTE_R, PTE_X}

abbrev pub has_bit : ℕ → ℕ → Bool
has_bit pte bit = nat_eq (pte / 2 ^ bit % 2) 1

-- the number of the page that the entry names: bits 53 to 10
abbrev pub ppn : ℕ → ℕ
ppn pte = pte / 2 ^ 10 % 2 ^ 44

-- a leaf maps a page; any other entry points to the table of the level below
abbrev pub is_leaf : ℕ → Bool
is_leaf pte = has_bit pte PTE_R || has_bit pte PTE_X

-- a leaf of a level maps 512 ^ level pages, and its own is the first of them
abbrev pub is_aligned : ℕ → ℕ → Bool
is_aligned level pte = nat_eq (ppn pte % 2 ^ (9 * level)) 0
