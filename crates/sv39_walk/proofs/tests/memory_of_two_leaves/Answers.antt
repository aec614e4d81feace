use Rattle.std.proofs.Common.{◌≡◌, ℕ, ◌<◌, List, ap, subst, sym, ◌∙◌}
use Rattle.std.specs.Prelude.{slice_index}
use Rattle.guest_ram.specs.Ram.{Ram, zero_ram}
use Rattle.guest_ram.proofs.Laws.{zero_ram_stamps}
use Rattle.sv39_walk.proofs.tests.memory_of_two_leaves.Goals as goal

pub returns-clause-stamps : goal.returns-clause-stamps
returns-clause-stamps c =
    let fresh : c.in_ok-ram.ram.stamps ≡ (zero_ram 65536 c.first_page.result.items).stamps = ap (λ (ram : Ram). ram.stamps) c.in_ok-ram.ensures.zeros in
    let same : c.place-4.new.self.stamps ≡ (zero_ram 65536 c.first_page.result.items).stamps = c.place-4.ensures.stamps ∙ c.place-3.ensures.stamps ∙ c.place-2.ensures.stamps ∙ c.place.ensures.stamps ∙ fresh in
    subst (λ (stamps : List ℕ). (frame : ℕ) → slice_index stamps frame < 1) (sym same) (zero_ram_stamps 65536 c.first_page.result.items)
