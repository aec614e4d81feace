-- When an entry of a guest's page table is a page fault.
-- Privileged manual, "Virtual Address Translation Process", with the entries of "Sv39" and "Sv48".
use Rattle.std.specs.Prelude.{ℕ, ◌/◌, ◌^◌, Bool, not, false, ◌&&◌, ◌||◌, nat_eq, if◌then◌else◌}
use Rattle.fc_numbers.specs.declared.machine.Mode.{Mode}
use Rattle.fc_numbers.specs.declared.machine.Mode.TheVariants.{Vu, Vs}
use Rattle.fc_numbers.specs.declared.machine.Access.{Access}
use Rattle.fc_numbers.specs.declared.machine.Access.TheVariants.{Fetch, Load, Store}
use Rattle.page_table.specs.declared.TheConstants.{PTE_V, PTE_R, PTE_W, PTE_X, PTE_U, PTE_A, PTE_D}
use Rattle.page_table.specs.Entry.{has_bit, is_aligned, is_leaf}
use Rattle.sv39_walk.specs.declared.Asked.{Asked}

-- not valid, or writable and not readable, or with a bit above the page number
abbrev pub is_unlawful : ℕ → Bool
is_unlawful pte = not (has_bit pte PTE_V) || (has_bit pte PTE_W && not (has_bit pte PTE_R)) || not (nat_eq (pte / 2 ^ 54) 0)

-- below level 0 there is no table, and U, A and D of a pointer are reserved
abbrev pub is_bad_pointer : ℕ → ℕ → Bool
is_bad_pointer level pte = nat_eq level 0 || has_bit pte PTE_U || has_bit pte PTE_A || has_bit pte PTE_D

-- user mode needs a user page; supervisor mode loads and stores there with SUM alone
abbrev pub may_touch : Asked → ℕ → Bool
may_touch q pte = elim q.mode [ Vu ↦ has_bit pte PTE_U | Vs ↦ not (has_bit pte PTE_U) || q.sum ]

-- user mode runs user pages, and supervisor mode the others
abbrev pub may_run : Mode → ℕ → Bool
may_run Vu pte = has_bit pte PTE_X && has_bit pte PTE_U
may_run Vs pte = has_bit pte PTE_X && not (has_bit pte PTE_U)

-- with MXR a load may read what may only be run
abbrev pub is_permitted : Access → Asked → ℕ → Bool
is_permitted Fetch q pte = may_run q.mode pte
is_permitted Load q pte = (has_bit pte PTE_R || (has_bit pte PTE_X && q.mxr)) && may_touch q pte
is_permitted Store q pte = has_bit pte PTE_W && may_touch q pte

-- a store to a page that is not marked as written to
abbrev pub is_clean : Access → ℕ → Bool
is_clean Fetch pte = false
is_clean Load pte = false
is_clean Store pte = not (has_bit pte PTE_D)

abbrev pub is_bad_leaf : Asked → ℕ → ℕ → Bool
is_bad_leaf q level pte =
    not (is_aligned level pte) || not (has_bit pte PTE_A) || is_clean q.access pte || not (is_permitted q.access q pte)

-- the entry is a page fault at this level
unfoldable pub is_fault : Asked → ℕ → ℕ → Bool
is_fault q level pte = is_unlawful pte || (if is_leaf pte then is_bad_leaf q level pte else is_bad_pointer level pte)
