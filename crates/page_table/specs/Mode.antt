-- MODE of satp, and the addresses that tables of a number of levels map.
-- Privileged manual, "Supervisor Address Translation and Protection (satp) Register", "Sv39", "Sv48".
use Rattle.std.specs.Prelude.{ℕ, ◌+◌, ◌-◌, ◌*◌, ◌/◌, ◌^◌, ◌==◌, Bool, ◌||◌, nat_eq, if◌then◌else◌}
use Rattle.page_table.specs.declared.TheConstants.{MODE_BARE, MODE_SV39, MODE_SV48}

-- MODE is bits 63 to 60
abbrev pub satp_mode : ℕ → ℕ
satp_mode satp = satp / 2 ^ 60

-- the modes that a guest can write: Bare, Sv39 and Sv48
abbrev pub has_mode : ℕ → Bool
has_mode satp = nat_eq (satp_mode satp) MODE_BARE || nat_eq (satp_mode satp) MODE_SV39 || nat_eq (satp_mode satp) MODE_SV48

-- the levels of the tables: four for Sv48, and three for Sv39
abbrev pub levels_of : ℕ → ℕ
levels_of satp = if satp_mode satp == MODE_SV48 then 4 else 3

-- an address has 12 bits and 9 for each level: all bits above equal its highest one
abbrev pub is_canonical : ℕ → ℕ → Bool
is_canonical levels address = nat_eq (address / 2 ^ (11 + 9 * levels)) 0 || nat_eq (address / 2 ^ (11 + 9 * levels)) (2 ^ (53 - 9 * levels) - 1)
