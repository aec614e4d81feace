-- A translation by the page: an address is translated as the first address of its page, and then so many bytes further on.
use Rattle.std.specs.Prelude.{ℕ, ◌+◌, ◌-◌, ◌%◌}
use Rattle.fc_numbers.specs.declared.places.TheConstants.{PAGE}
use Rattle.sv39_walk.specs.declared.Walked.{Walked}
use Rattle.sv39_walk.specs.declared.Walked.TheVariants.{At, PageFault, AccessFault, TableInText}

abbrev pub page_start : ℕ → ℕ
page_start va = va - va % PAGE

abbrev pub in_page : Walked → ℕ → Walked
in_page (At place) offset = At (place + offset)
in_page PageFault offset = PageFault
in_page AccessFault offset = AccessFault
in_page TableInText offset = TableInText
