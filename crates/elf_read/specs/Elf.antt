-- The kernel that an ELF file holds, or the first fault.
-- The format is ELF-64 for RISC-V; which files are taken is this project's own.
use Rattle.std.specs.Prelude.{ℕ, ◌+◌, ◌*◌, ◌==◌, ◌&&◌, ◌||◌, nat_le, nat_lt, Bool, true, not, List, [], ◌∷◌, length, map, take, slice_index, bytes_eq, Option, Some, None, Result}
use Rattle.std.specs.List.{filter, find, list_all, list_any, slice_get}
use Rattle.elf_read.specs.declared.fields.TheConstants.{ET_EXEC, EM_RISCV, ELFCLASS64, ELFDATA2LSB, EHDR_SIZE, PHDR_SIZE, SHDR_SIZE}
use Rattle.elf_read.specs.declared.fields.Header.{Header}
use Rattle.elf_read.specs.declared.fields.ProgramHeader.{ProgramHeader}
use Rattle.elf_read.specs.declared.fields.SectionHeader.{SectionHeader}
use Rattle.elf_read.specs.declared.laid.Segment.{Segment}
use Rattle.elf_read.specs.declared.laid.NamedPlace.{NamedPlace}
use Rattle.elf_read.specs.declared.parts.ElfFault.{ElfFault}
use Rattle.elf_read.specs.declared.parts.ElfFault.TheVariants.{NotElf, WrongKind, Truncated}
use Rattle.elf_read.specs.declared.parts.ElfParts.{ElfParts}
use Rattle.elf_read.specs.Steps.{◌>>=◌, must}
use Rattle.elf_read.specs.Fields.{u16_at, header_of, segments_in, sections_in, is_executable, is_writable_segment, is_symbol_table, piece, named_in}
use Rattle.elf_read.specs.Addresses.{place_of_address}
use Rattle.elf_read.specs.Laid.{Layout}
use Rattle.elf_read.specs.Kernel.{kernel_of_laid}

-- 0x7f, E, L, F
abbrev pub elf_mark : List ℕ
elf_mark = 0x7f ∷ 0x45 ∷ 0x4c ∷ 0x46 ∷ []

unfoldable pub has_mark : List ℕ → Bool
has_mark file = bytes_eq (take 4 file) elf_mark

-- a table that is there has entries of this size
abbrev pub has_entries : ℕ → ℕ → ℕ → Bool
has_entries count size want = (count == 0) || (size == want)

-- an executable of 64 bits for RISC-V, little endian, where there is a whole header to tell
unfoldable pub is_kind : List ℕ → Bool
is_kind file = nat_lt (length file) EHDR_SIZE || ((slice_index file 4 == ELFCLASS64) && (slice_index file 5 == ELFDATA2LSB)
    && (u16_at file 16 == ET_EXEC) && (u16_at file 18 == EM_RISCV)
    && has_entries (u16_at file 56) (u16_at file 54) PHDR_SIZE && has_entries (u16_at file 60) (u16_at file 58) SHDR_SIZE)

-- a piece of no bytes is inside, whatever its offset
abbrev pub is_inside_file : List ℕ → ℕ → ℕ → Bool
is_inside_file file offset size = (size == 0) || nat_le (offset + size) (length file)

unfoldable pub are_tables : List ℕ → Header → Bool
are_tables file h = is_inside_file file h.e_phoff (PHDR_SIZE * h.e_phnum) && is_inside_file file h.e_shoff (SHDR_SIZE * h.e_shnum)

abbrev pub is_loaded : List ℕ → ProgramHeader → Bool
is_loaded file p = is_inside_file file p.p_offset p.p_filesz

abbrev pub is_section_inside : List ℕ → SectionHeader → Bool
is_section_inside file s = is_inside_file file s.sh_offset s.sh_size

abbrev pub has_strings : List ℕ → Option SectionHeader → Bool
has_strings file None = not true
has_strings file (Some strings) = is_section_inside file strings

abbrev pub are_symbols : List ℕ → List SectionHeader → Option SectionHeader → Bool
are_symbols file sections None = true
are_symbols file sections (Some table) = is_section_inside file table && has_strings file (slice_get sections table.sh_link)

abbrev pub symbol_table : List SectionHeader → Option SectionHeader
symbol_table sections = find is_symbol_table sections

abbrev pub strings_of : List ℕ → Option SectionHeader → List ℕ
strings_of file None = []
strings_of file (Some s) = piece file s.sh_offset s.sh_size

-- the executable segments, and the others
abbrev pub code_of : List ProgramHeader → List ProgramHeader
code_of segments = filter is_executable segments

abbrev pub data_of : List ProgramHeader → List ProgramHeader
data_of segments = filter (λ p. not (is_executable p)) segments

-- the named places of the functions that the symbols name
abbrev pub named_by : List ℕ → List ProgramHeader → List SectionHeader → Option SectionHeader → List NamedPlace
named_by file code sections None = []
named_by file code sections (Some table) = named_in file code table (strings_of file (slice_get sections table.sh_link))

-- the bytes of the file, and the bytes in memory
abbrev pub segment_of : List ℕ → ProgramHeader → Segment
segment_of file p = record { place = p.p_paddr; bytes = piece file p.p_offset p.p_filesz; size = p.p_memsz }

-- what the segments lay out, with functions at these places
abbrev pub layout_of : List ℕ → Header → List ProgramHeader → List NamedPlace → Layout
layout_of file h segments named = record {
  code = map (segment_of file) (code_of segments);
  parts = map (segment_of file) (data_of segments);
  writable = list_any is_writable_segment (code_of segments);
  named = named;
  entry = place_of_address (code_of segments) h.e_entry;
}

-- what the tables give
unfoldable pub laid_by : List ℕ → Header → List ProgramHeader → List SectionHeader → Result ElfParts ElfFault
laid_by file h segments sections = do
  loaded ← must Truncated (list_all (is_loaded file) segments)
  symbols ← must Truncated (are_symbols file sections (symbol_table sections))
  kernel_of_laid (layout_of file h segments (named_by file (code_of segments) sections (symbol_table sections)))

-- the kernel that a file holds, or its first fault
unfoldable pub elf_of : List ℕ → Result ElfParts ElfFault
elf_of file = do
  mark ← must NotElf (has_mark file)
  kind ← must WrongKind (is_kind file)
  long ← must Truncated (nat_le EHDR_SIZE (length file))
  tables ← must Truncated (are_tables file (header_of file))
  laid_by file (header_of file) (segments_in file (header_of file)) (sections_in file (header_of file))
