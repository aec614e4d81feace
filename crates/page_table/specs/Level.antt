-- The levels of a page table: how much one entry of a level maps, and which entry an address has.
-- Privileged manual, "Virtual Address Translation Process".
use Rattle.std.specs.Prelude.{ℕ, ◌+◌, ◌*◌, ◌/◌, ◌%◌, ◌^◌}

-- the bytes that a leaf maps: 4 KiB at level 0, 2 MiB at level 1, 1 GiB at level 2, 512 GiB at level 3
abbrev pub page_size : ℕ → ℕ
page_size level = 2 ^ (12 + 9 * level)

-- the number of the entry for an address in a table of the level: 512 entries, found by 9 bits of the address
abbrev pub index_at : ℕ → ℕ → ℕ
index_at level address = address / page_size level % 512
