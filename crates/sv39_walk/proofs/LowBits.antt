-- A translation keeps the low 12 bits of the address.
use Rattle.std.proofs.Common.{◌≡◌, ℕ, zero, suc, ◌+◌, ◌*◌, ◌%◌, ◌<◌, ◌≤◌, ◌==◌, true, false, if◌then◌else◌, refl, arith}
use Rattle.std.specs.Prelude.{not}
use Rattle.std.proofs.lemmas.Bool.Decides.{nat_tests}
use Rattle.fc_numbers.specs.declared.machine.Width.TheVariants.{Doubleword}
use Rattle.guest_ram.specs.Ram.{Ram, is_inside, is_text, value}
use Rattle.page_table.specs.Entry.{ppn}
use Rattle.page_table.specs.Level.{page_size}
use Rattle.page_table.specs.Mode.{is_canonical, levels_of, satp_mode}
use Rattle.sv39_walk.specs.declared.Asked.{Asked}
use Rattle.sv39_walk.specs.declared.Walked.{Walked}
use Rattle.sv39_walk.specs.declared.Walked.TheVariants.{At, PageFault, AccessFault, TableInText}
use Rattle.sv39_walk.specs.Entry.{is_fault}
use Rattle.sv39_walk.specs.Walk.{KeepsLow, entry_place, ends_in, leads_on, root_of, table_of, walk_from, walked}
use Rattle.sv39_walk.specs.Page.{page_start}

low_rest : (n level va : ℕ) → level < 4 → (n * 4096 + va % page_size level) % 4096 ≡ va % 4096
low_rest n zero va low = omega arith
low_rest n (suc zero) va low = omega arith
low_rest n (suc (suc zero)) va low = omega arith
low_rest n (suc (suc (suc zero))) va low = omega arith
low_rest n (suc (suc (suc (suc level)))) va low = absurd (omega (arith, low))

low_ends : (ram : Ram) (q : Asked) (level at : ℕ) → level < 4 → KeepsLow q.va (ends_in ram q level at)
unfolding ends_in
low_ends ram q level at low =
    elim (not (is_inside ram at)) as (λ x. KeepsLow q.va (if x then AccessFault else if is_text ram at then TableInText else if is_fault q level (value ram at Doubleword) then PageFault else At (ppn (value ram at Doubleword) * 4096 + q.va % page_size level))) [
      | true ↦ tt
      | false ↦
          elim (is_text ram at) as (λ y. KeepsLow q.va (if y then TableInText else if is_fault q level (value ram at Doubleword) then PageFault else At (ppn (value ram at Doubleword) * 4096 + q.va % page_size level))) [
            | true ↦ tt
            | false ↦
                elim (is_fault q level (value ram at Doubleword)) as (λ z. KeepsLow q.va (if z then PageFault else At (ppn (value ram at Doubleword) * 4096 + q.va % page_size level))) [
                  | true ↦ tt
                  | false ↦ low_rest (ppn (value ram at Doubleword)) level q.va low
                ]
          ]
    ]

low_from : (ram : Ram) (q : Asked) (levels table : ℕ) → levels ≤ 4 → KeepsLow q.va (walk_from ram q levels table)
unfolding walk_from
low_from ram q zero table most = tt
low_from ram q (suc level) table most =
    elim (leads_on ram q level (entry_place q level table)) as
    (λ x. KeepsLow q.va (if x then walk_from ram q level (table_of ram (entry_place q level table)) else ends_in ram q level (entry_place q level table))) [
      | true ↦ low_from ram q level (table_of ram (entry_place q level table)) (omega (arith, most))
      | false ↦ low_ends ram q level (entry_place q level table) (omega (arith, most))
    ]

few : (satp : ℕ) → levels_of satp ≤ 4
few satp = grind (arith, nat_tests)

pub low_walked : (ram : Ram) (satp : ℕ) (q : Asked) → KeepsLow q.va (walked ram satp q)
unfolding walked
low_walked ram satp q =
    elim (satp_mode satp == 0) as
    (λ x. KeepsLow q.va (if x then At q.va else if is_canonical (levels_of satp) q.va then walk_from ram q (levels_of satp) (root_of satp) else PageFault)) [
      | true ↦ refl
      | false ↦
          elim (is_canonical (levels_of satp) q.va) as (λ y. KeepsLow q.va (if y then walk_from ram q (levels_of satp) (root_of satp) else PageFault)) [
            | true ↦ low_from ram q (levels_of satp) (root_of satp) (few satp)
            | false ↦ tt
          ]
    ]

-- the answer for the first address of a page is the first place of one
pub low_page : (va : ℕ) (w : Walked) → KeepsLow (page_start va) w → KeepsLow 0 w
low_page va (At place) low = omega (arith, low)
low_page va PageFault low = tt
low_page va AccessFault low = tt
low_page va TableInText low = tt
