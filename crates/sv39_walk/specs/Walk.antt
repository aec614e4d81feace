-- Translation of an address by satp: a sequence of table entries, at most three for Sv39 and four for Sv48, each standing in the table
-- that the one before names.
-- Privileged manual, "Supervisor Address Translation and Protection (satp) Register" and "Virtual Address Translation Process".
use Rattle.std.specs.Prelude.{◌≡◌, ◌≢◌, ℕ, ◌+◌, ◌-◌, ◌*◌, ◌%◌, ◌^◌, ◌<◌, ◌≤◌, ◌==◌, Bool, true, false, not, ◌&&◌, if◌then◌else◌, List, length, slice_index, Option, Some, None, Result, Ok, Err}
use Rattle.std.proofs.Common.{zero, suc}
use Rattle.fc_numbers.specs.declared.machine.Mode.{Mode}
use Rattle.fc_numbers.specs.declared.machine.Access.{Access}
use Rattle.fc_numbers.specs.declared.machine.Width.TheVariants.{Doubleword}
use Rattle.guest_ram.specs.Ram.{Ram, is_inside, is_text, value}
use Rattle.page_table.specs.declared.TheConstants.{PTE_SIZE}
use Rattle.page_table.specs.Entry.{ppn, is_leaf}
use Rattle.page_table.specs.Level.{index_at, page_size}
use Rattle.page_table.specs.Mode.{is_canonical, levels_of, satp_mode}
use Rattle.rv_csr.specs.Csr.{is_set}
use Rattle.rv_csr.specs.Csrs.{Csrs}
use Rattle.rv_csr.specs.declared.TheConstants.{MXR_BIT, SUM_BIT}
use Rattle.sv39_walk.specs.Entry.{is_fault}
use Rattle.sv39_walk.specs.declared.Asked.{Asked}
use Rattle.sv39_walk.specs.declared.Walked.{Walked}
use Rattle.sv39_walk.specs.declared.Walked.TheVariants.{At, PageFault, AccessFault, TableInText}

-- what is asked of a translation
abbrev pub asked : Mode → Bool → Bool → Access → ℕ → Asked
asked mode sum mxr access va = record { mode = mode; sum = sum; mxr = mxr; access = access; va = va }

-- the place of the entry for an address in a table: 512 entries of 8 bytes, found by 9 bits of the address for each level
abbrev pub entry_place : Asked → ℕ → ℕ → ℕ
entry_place q level table = table + PTE_SIZE * index_at level q.va

-- an entry that can be read, is no fault and is no leaf: the walk goes on in the table that it names
abbrev pub leads_on : Ram → Asked → ℕ → ℕ → Bool
leads_on ram q level at = is_inside ram at && not (is_text ram at) && not (is_fault q level (value ram at Doubleword)) && not (is_leaf (value ram at Doubleword))

-- the entry that can be read, or the answer where it cannot
abbrev pub entry_read : Ram → ℕ → Result ℕ Walked
entry_read ram at = if is_inside ram at then (if is_text ram at then Err TableInText else Ok (value ram at Doubleword)) else Err AccessFault

-- where the page of a table begins that an entry names
abbrev pub table_of : Ram → ℕ → ℕ
table_of ram at = ppn (value ram at Doubleword) * 4096

-- what the last entry of a walk answers
unfoldable pub ends_in : Ram → Asked → ℕ → ℕ → Walked
ends_in ram q level at =
    if not (is_inside ram at) then AccessFault
    else if is_text ram at then TableInText
    else if is_fault q level (value ram at Doubleword) then PageFault
    else At (ppn (value ram at Doubleword) * 4096 + q.va % page_size level)

-- the entries that stand at these places, the first in this table and at the highest of so many levels, are a walk with this answer:
-- each one but the last leads on to the next, one level below, and the last leads nowhere and gives the answer
pub record IsWalk (ram : Ram) (q : Asked) (levels : ℕ) (table : ℕ) (entries : List ℕ) (answer : Walked) : Type 0 where
  pub some : 0 < length entries
  pub most : length entries ≤ levels
  pub first : slice_index entries 0 ≡ entry_place q (levels - 1) table
  pub leads : (k : ℕ) → k + 1 < length entries → leads_on ram q (levels - 1 - k) (slice_index entries k) ≡ true
  pub next : (k : ℕ) → k + 1 < length entries → slice_index entries (k + 1) ≡ entry_place q (levels - 2 - k) (table_of ram (slice_index entries k))
  pub last : leads_on ram q (levels - length entries) (slice_index entries (length entries - 1)) ≡ false
  pub ends : answer ≡ ends_in ram q (levels - length entries) (slice_index entries (length entries - 1))

-- where the page of the root table begins
abbrev pub root_of : ℕ → ℕ
root_of satp = satp % 2 ^ 44 * 4096

-- the translation of an address by satp has this answer
pub record IsTranslation (ram : Ram) (satp : ℕ) (q : Asked) (answer : Walked) : Type 0 where
  pub bare : satp_mode satp ≡ 0 → answer ≡ At q.va
  pub sign : satp_mode satp ≢ 0 → is_canonical (levels_of satp) q.va ≡ false → answer ≡ PageFault
  pub walk : satp_mode satp ≢ 0 → is_canonical (levels_of satp) q.va ≡ true → (entries : List ℕ) × IsWalk ram q (levels_of satp) (root_of satp) entries answer

-- the same as a computation: the answer over so many levels from a table on
unfoldable pub walk_from : Ram → Asked → ℕ → ℕ → Walked
walk_from ram q zero table = PageFault
walk_from ram q (suc level) table =
    if leads_on ram q level (entry_place q level table)
    then walk_from ram q level (table_of ram (entry_place q level table))
    else ends_in ram q level (entry_place q level table)

unfoldable pub walked : Ram → ℕ → Asked → Walked
walked ram satp q =
    if satp_mode satp == 0 then At q.va
    else if is_canonical (levels_of satp) q.va then walk_from ram q (levels_of satp) (root_of satp)
    else PageFault

-- the place has the low 12 bits of the address
abbrev pub KeepsLow : ℕ → Walked → Type 0
KeepsLow va (At place) = place % 4096 ≡ va % 4096
KeepsLow va PageFault = Unit {0}
KeepsLow va AccessFault = Unit {0}
KeepsLow va TableInText = Unit {0}

-- the translation for a vCPU with these registers, in this mode: by its own satp, and by SUM and MXR of its sstatus
abbrev pub walked_for : Ram → Csrs → Mode → Access → ℕ → Walked
walked_for ram csr mode access va =
    walked ram csr.satp (asked mode (is_set csr.sstatus SUM_BIT) (is_set csr.sstatus MXR_BIT) access va)

-- the place that an address is translated to, if there is one
abbrev pub translated_place : Walked → Option ℕ
translated_place (At place) = Some place
translated_place PageFault = None
translated_place AccessFault = None
translated_place TableInText = None

-- the place that an address leads to for a vCPU with these registers, in this mode
unfoldable pub place_for : Ram → Csrs → Mode → Access → ℕ → Option ℕ
place_for ram csr mode access va = translated_place (walked_for ram csr mode access va)
