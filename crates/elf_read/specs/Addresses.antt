-- Which place a virtual address of an ELF file has.
-- An address belongs to the first executable segment whose pages hold it, by the order of the headers.
use Rattle.std.specs.Prelude.{ℕ, ◌+◌, ◌-◌, ◌&&◌, nat_le, nat_lt, Bool, List, Option, option_map}
use Rattle.std.specs.List.{find}
use Rattle.fc_numbers.specs.declared.places.TheConstants.{RAM_START, RAM_MOST}
use Rattle.elf_read.specs.declared.fields.ProgramHeader.{ProgramHeader}
use Rattle.elf_read.specs.Kernel.{whole_pages}

-- the segment lies in the machine's largest RAM: a file in which one does not is refused before an address counts
abbrev pub is_within : ProgramHeader → Bool
is_within p = nat_le RAM_START p.p_paddr && nat_le (p.p_paddr + p.p_memsz) (RAM_START + RAM_MOST)

abbrev pub has_address : ℕ → ProgramHeader → Bool
has_address address p = is_within p && nat_le p.p_vaddr address && nat_lt address (p.p_vaddr + whole_pages p.p_memsz)

unfoldable pub place_of_address : List ProgramHeader → ℕ → Option ℕ
place_of_address code address = option_map (λ p. address - p.p_vaddr + p.p_paddr) (find (has_address address) code)
