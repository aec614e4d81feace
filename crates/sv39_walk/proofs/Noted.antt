-- The frames of a walk, entry by entry.
use Rattle.std.proofs.Common.{◌≡◌, ℕ, zero, suc, ◌-◌, ◌*◌, ◌<◌, true, false, Ok, [], ◌∷◌, arith}
use Rattle.std.proofs.lemmas.Grind.{common_steps}
use Rattle.std.proofs.lemmas.Bool.Decides.{nat_tests}
use Rattle.guest_ram.specs.Ram.{Ram, frame_of}
use Rattle.page_table.specs.Entry.{ppn, is_leaf}
use Rattle.sv39_walk.specs.declared.Asked.{Asked}
use Rattle.sv39_walk.specs.Entry.{is_fault}
use Rattle.sv39_walk.specs.Walk.{entry_place, entry_read}
use Rattle.sv39_walk.specs.ReadFacts.{frames_from}

pub ends_by_fault : (ram : Ram) (q : Asked) (levels table at pte : ℕ) → 0 < levels → at ≡ entry_place q (levels - 1) table → Ok pte ≡ entry_read ram at → true ≡ is_fault q (levels - 1) pte → frame_of at ∷ [] ≡ frames_from ram q levels table
unfolding frames_from
ends_by_fault ram q zero table at pte some place read fault = absurd (omega arith)
ends_by_fault ram q (suc level) table at pte some place read fault = grind (arith, common_steps, nat_tests)

pub ends_by_leaf : (ram : Ram) (q : Asked) (levels table at pte : ℕ) → 0 < levels → at ≡ entry_place q (levels - 1) table → Ok pte ≡ entry_read ram at → true ≡ is_leaf pte → frame_of at ∷ [] ≡ frames_from ram q levels table
unfolding frames_from
ends_by_leaf ram q zero table at pte some place read leaf = absurd (omega arith)
ends_by_leaf ram q (suc level) table at pte some place read leaf = grind (arith, common_steps, nat_tests)

pub goes_deeper : (ram : Ram) (q : Asked) (levels table at pte : ℕ) → 0 < levels → at ≡ entry_place q (levels - 1) table → Ok pte ≡ entry_read ram at → false ≡ is_fault q (levels - 1) pte → false ≡ is_leaf pte
    → frame_of at ∷ frames_from ram q (levels - 1) (ppn pte * 4096) ≡ frames_from ram q levels table
unfolding frames_from
goes_deeper ram q zero table at pte some place read lawful pointer = absurd (omega arith)
goes_deeper ram q (suc level) table at pte some place read lawful pointer = grind (arith, common_steps, nat_tests)
