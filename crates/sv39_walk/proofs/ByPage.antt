-- A translation goes by the page.
use Rattle.std.proofs.Common.{◌≡◌, ℕ, zero, suc, ◌+◌, ◌*◌, ◌/◌, ◌%◌, ◌^◌, ◌<◌, ◌≤◌, ◌==◌, Bool, true, false, if◌then◌else◌, refl, ap, arith}
use Rattle.std.specs.Prelude.{not}
use Rattle.std.proofs.lemmas.Bool.Decides.{nat_tests}
use Rattle.fc_numbers.specs.declared.machine.Mode.{Mode}
use Rattle.fc_numbers.specs.declared.machine.Access.{Access}
use Rattle.fc_numbers.specs.declared.machine.Access.TheVariants.{Fetch, Load, Store}
use Rattle.fc_numbers.specs.declared.machine.Width.TheVariants.{Doubleword}
use Rattle.guest_ram.specs.Ram.{Ram, is_inside, is_text, value}
use Rattle.page_table.specs.Entry.{ppn}
use Rattle.page_table.specs.Level.{index_at, page_size}
use Rattle.page_table.specs.Mode.{is_canonical, levels_of, satp_mode}
use Rattle.sv39_walk.specs.declared.Walked.TheVariants.{At, PageFault, AccessFault, TableInText}
use Rattle.sv39_walk.specs.Entry.{is_fault}
use Rattle.sv39_walk.specs.Walk.{asked, entry_place, ends_in, leads_on, root_of, table_of, walk_from, walked}
use Rattle.sv39_walk.specs.Page.{in_page, page_start}

same_index : (level va : ℕ) → level < 4 → index_at level (page_start va) ≡ index_at level va
same_index zero va low = omega arith
same_index (suc zero) va low = omega arith
same_index (suc (suc zero)) va low = omega arith
same_index (suc (suc (suc zero))) va low = omega arith
same_index (suc (suc (suc (suc level)))) va low = absurd (omega (arith, low))

same_rest : (level va : ℕ) → level < 4 → page_start va % page_size level + va % 4096 ≡ va % page_size level
same_rest zero va low = omega arith
same_rest (suc zero) va low = omega arith
same_rest (suc (suc zero)) va low = omega arith
same_rest (suc (suc (suc zero))) va low = omega arith
same_rest (suc (suc (suc (suc level)))) va low = absurd (omega (arith, low))

same_fault : (mode : Mode) (sum mxr : Bool) (access : Access) (va level pte : ℕ) → is_fault (asked mode sum mxr access (page_start va)) level pte ≡ is_fault (asked mode sum mxr access va) level pte
unfolding is_fault
same_fault mode sum mxr Fetch va level pte = refl
same_fault mode sum mxr Load va level pte = refl
same_fault mode sum mxr Store va level pte = refl

-- the entries for both addresses are the same, and what they say
same_leads : (ram : Ram) (mode : Mode) (sum mxr : Bool) (access : Access) (va level at : ℕ) → leads_on ram (asked mode sum mxr access (page_start va)) level at ≡ leads_on ram (asked mode sum mxr access va) level at
same_leads ram mode sum mxr access va level at = rw (same_fault mode sum mxr access va level (value ram at Doubleword)) refl

same_ends : (ram : Ram) (mode : Mode) (sum mxr : Bool) (access : Access) (va level at : ℕ) → level < 4 → ends_in ram (asked mode sum mxr access va) level at ≡ in_page (ends_in ram (asked mode sum mxr access (page_start va)) level at) (va % 4096)
unfolding ends_in
same_ends ram mode sum mxr access va level at low =
    rw (same_fault mode sum mxr access va level (value ram at Doubleword))
    (elim (not (is_inside ram at)) as
    (λ x. (if x then AccessFault else if is_text ram at then TableInText else if is_fault (asked mode sum mxr access va) level (value ram at Doubleword) then PageFault else At (ppn (value ram at Doubleword) * 4096 + va % page_size level))
    ≡ in_page (if x then AccessFault else if is_text ram at then TableInText else if is_fault (asked mode sum mxr access va) level (value ram at Doubleword) then PageFault else At (ppn (value ram at Doubleword) * 4096 + page_start va % page_size level)) (va % 4096)) [
      | true ↦ refl
      | false ↦
          elim (is_text ram at) as
          (λ y. (if y then TableInText else if is_fault (asked mode sum mxr access va) level (value ram at Doubleword) then PageFault else At (ppn (value ram at Doubleword) * 4096 + va % page_size level))
          ≡ in_page (if y then TableInText else if is_fault (asked mode sum mxr access va) level (value ram at Doubleword) then PageFault else At (ppn (value ram at Doubleword) * 4096 + page_start va % page_size level)) (va % 4096)) [
            | true ↦ refl
            | false ↦
                elim (is_fault (asked mode sum mxr access va) level (value ram at Doubleword)) as
                (λ z. (if z then PageFault else At (ppn (value ram at Doubleword) * 4096 + va % page_size level))
                ≡ in_page (if z then PageFault else At (ppn (value ram at Doubleword) * 4096 + page_start va % page_size level)) (va % 4096)) [
                  | true ↦ refl
                  | false ↦ ap At (omega (arith, same_rest level va low))
                ]
          ]
    ])

same_place : (mode : Mode) (sum mxr : Bool) (access : Access) (va level table : ℕ) → level < 4 → entry_place (asked mode sum mxr access (page_start va)) level table ≡ entry_place (asked mode sum mxr access va) level table
same_place mode sum mxr access va level table low = ap (λ n. table + 8 * n) (same_index level va low)

same_from : (ram : Ram) (mode : Mode) (sum mxr : Bool) (access : Access) (va levels table : ℕ) → levels ≤ 4 → walk_from ram (asked mode sum mxr access va) levels table ≡ in_page (walk_from ram (asked mode sum mxr access (page_start va)) levels table) (va % 4096)
unfolding walk_from
same_from ram mode sum mxr access va zero table most = refl
same_from ram mode sum mxr access va (suc level) table most =
    let low : level < 4 = omega (arith, most) in
    let at = entry_place (asked mode sum mxr access va) level table in
    rw (same_place mode sum mxr access va level table low, same_leads ram mode sum mxr access va level at)
    (elim (leads_on ram (asked mode sum mxr access va) level at) as
    (λ x. (if x then walk_from ram (asked mode sum mxr access va) level (table_of ram at) else ends_in ram (asked mode sum mxr access va) level at)
    ≡ in_page (if x then walk_from ram (asked mode sum mxr access (page_start va)) level (table_of ram at) else ends_in ram (asked mode sum mxr access (page_start va)) level at) (va % 4096)) [
      | true ↦ same_from ram mode sum mxr access va level (table_of ram at) (omega (arith, most))
      | false ↦ same_ends ram mode sum mxr access va level at low
    ])

same_sign : (satp va : ℕ) → is_canonical (levels_of satp) (page_start va) ≡ is_canonical (levels_of satp) va
same_sign satp va =
    elim (satp_mode satp == 9) as (λ x. is_canonical (if x then 4 else 3) (page_start va) ≡ is_canonical (if x then 4 else 3) va) [
      | true ↦ (let same : page_start va / 2 ^ 47 ≡ va / 2 ^ 47 = omega arith in rw same refl)
      | false ↦ (let same : page_start va / 2 ^ 38 ≡ va / 2 ^ 38 = omega arith in rw same refl)
    ]

few_levels : (satp : ℕ) → levels_of satp ≤ 4
few_levels satp = grind (arith, nat_tests)

-- an address is translated as the first address of its page
pub by_page : (ram : Ram) (satp : ℕ) (mode : Mode) (sum mxr : Bool) (access : Access) (va : ℕ) → walked ram satp (asked mode sum mxr access va) ≡ in_page (walked ram satp (asked mode sum mxr access (page_start va))) (va % 4096)
unfolding walked
by_page ram satp mode sum mxr access va =
    elim (satp_mode satp == 0) as
    (λ x. (if x then At va else if is_canonical (levels_of satp) va then walk_from ram (asked mode sum mxr access va) (levels_of satp) (root_of satp) else PageFault)
    ≡ in_page (if x then At (page_start va) else if is_canonical (levels_of satp) (page_start va) then walk_from ram (asked mode sum mxr access (page_start va)) (levels_of satp) (root_of satp) else PageFault) (va % 4096)) [
      | true ↦ ap At (omega arith)
      | false ↦
          rw (same_sign satp va)
          (elim (is_canonical (levels_of satp) va) as
          (λ y. (if y then walk_from ram (asked mode sum mxr access va) (levels_of satp) (root_of satp) else PageFault)
          ≡ in_page (if y then walk_from ram (asked mode sum mxr access (page_start va)) (levels_of satp) (root_of satp) else PageFault) (va % 4096)) [
            | true ↦ same_from ram mode sum mxr access va (levels_of satp) (root_of satp) (few_levels satp)
            | false ↦ refl
          ])
    ]
