-- One entry of the computed walk.
use Rattle.std.proofs.Common.{◌≡◌, ℕ, zero, suc, ◌+◌, ◌-◌, ◌*◌, ◌%◌, ◌<◌, true, false, Ok, Err, arith}
use Rattle.std.proofs.lemmas.Grind.{common_steps}
use Rattle.std.proofs.lemmas.Bool.Decides.{nat_tests}
use Rattle.guest_ram.specs.Ram.{Ram}
use Rattle.sv39_walk.specs.declared.Asked.{Asked}
use Rattle.sv39_walk.specs.declared.Walked.{Walked}
use Rattle.sv39_walk.specs.declared.Walked.TheVariants.{At, PageFault}
use Rattle.page_table.specs.Entry.{ppn, is_leaf}
use Rattle.page_table.specs.Level.{page_size}
use Rattle.sv39_walk.specs.Entry.{is_fault}
use Rattle.sv39_walk.specs.Walk.{entry_place, entry_read, leads_on, ends_in, walk_from}

pub unread : (ram : Ram) (q : Asked) (levels table at : ℕ) (w : Walked) → 0 < levels → at ≡ entry_place q (levels - 1) table → Err w ≡ entry_read ram at → w ≡ walk_from ram q levels table
unfolding walk_from ends_in
unread ram q zero table at w some place read = absurd (omega arith)
unread ram q (suc level) table at w some place read = grind (arith, common_steps, nat_tests)

pub faults : (ram : Ram) (q : Asked) (levels table at pte : ℕ) → 0 < levels → at ≡ entry_place q (levels - 1) table → Ok pte ≡ entry_read ram at → true ≡ is_fault q (levels - 1) pte → PageFault ≡ walk_from ram q levels table
unfolding walk_from ends_in
faults ram q zero table at pte some place read fault = absurd (omega arith)
faults ram q (suc level) table at pte some place read fault = grind (arith, common_steps, nat_tests)

pub maps : (ram : Ram) (q : Asked) (levels table at pte : ℕ) → 0 < levels → at ≡ entry_place q (levels - 1) table → Ok pte ≡ entry_read ram at → false ≡ is_fault q (levels - 1) pte → true ≡ is_leaf pte → At (ppn pte * 4096 + q.va % page_size (levels - 1)) ≡ walk_from ram q levels table
unfolding walk_from ends_in
maps ram q zero table at pte some place read lawful leaf = absurd (omega arith)
maps ram q (suc level) table at pte some place read lawful leaf = grind (arith, common_steps, nat_tests)

pub goes_on : (ram : Ram) (q : Asked) (levels table at pte : ℕ) → 0 < levels → at ≡ entry_place q (levels - 1) table → Ok pte ≡ entry_read ram at → false ≡ is_fault q (levels - 1) pte → false ≡ is_leaf pte → walk_from ram q (levels - 1) (ppn pte * 4096) ≡ walk_from ram q levels table
unfolding walk_from ends_in
goes_on ram q zero table at pte some place read lawful pointer = absurd (omega arith)
goes_on ram q (suc level) table at pte some place read lawful pointer = grind (arith, common_steps, nat_tests)

pub above_last : (q : Asked) (level pte : ℕ) → false ≡ is_fault q level pte → false ≡ is_leaf pte → 0 < level
unfolding is_fault
above_last q level pte lawful pointer = grind (arith, nat_tests)

-- an entry that leads on is not one of the last level
pub above_zero : (ram : Ram) (q : Asked) (level at : ℕ) → leads_on ram q level at ≡ true → 0 < level
above_zero ram q level at leads = grind (arith, nat_tests, above_last)
