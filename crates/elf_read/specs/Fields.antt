-- What stands in an ELF file: the header, the program headers, the section headers and the symbols, all little endian.
-- The offsets are those of ELF-64 ("ELF Header", "Program Header", "Section Header", "Symbol Table").
use Rattle.std.specs.Prelude.{ℕ, ◌+◌, ◌*◌, ◌/◌, ◌%◌, ◌^◌, ◌==◌, ◌&&◌, nat_lt, Bool, List, [], ◌∷◌, take, drop, map, flat_map, slice_index, bit_and, not, cond, Option, Some, None}
use Rattle.std.specs.List.{filter, range_with_len, before_first}
use Rattle.elf_read.specs.declared.fields.Header.{Header}
use Rattle.elf_read.specs.declared.fields.ProgramHeader.{ProgramHeader}
use Rattle.elf_read.specs.declared.fields.SectionHeader.{SectionHeader}
use Rattle.elf_read.specs.declared.fields.Symbol.{Symbol}
use Rattle.elf_read.specs.declared.fields.TheConstants.{PT_LOAD, PF_X, PF_W, SHT_SYMTAB, SHF_COMPRESSED, STT_FUNC, PHDR_SIZE, SHDR_SIZE, SYM_SIZE}
use Rattle.elf_read.specs.declared.laid.NamedPlace.{NamedPlace}
use Rattle.elf_read.specs.Addresses.{place_of_address}
use Rattle.elf_read.specs.Starts.{kept_name}

-- numbers of 2, 4 and 8 bytes; a byte past the end counts as 0
unfoldable pub u16_at : List ℕ → ℕ → ℕ
u16_at file at = slice_index file at + 2 ^ 8 * slice_index file (at + 1)

unfoldable pub u32_at : List ℕ → ℕ → ℕ
u32_at file at = u16_at file at + 2 ^ 16 * u16_at file (at + 2)

unfoldable pub u64_at : List ℕ → ℕ → ℕ
u64_at file at = u32_at file at + 2 ^ 32 * u32_at file (at + 4)

unfoldable pub header_of : List ℕ → Header
header_of file = record {
  e_entry = u64_at file 24;
  e_phoff = u64_at file 32;
  e_shoff = u64_at file 40;
  e_phnum = u16_at file 56;
  e_shnum = u16_at file 60;
}

unfoldable pub program_header : List ℕ → ℕ → ProgramHeader
program_header file at = record {
  p_type = u32_at file at;
  p_flags = u32_at file (at + 4);
  p_offset = u64_at file (at + 8);
  p_vaddr = u64_at file (at + 16);
  p_paddr = u64_at file (at + 24);
  p_filesz = u64_at file (at + 32);
  p_memsz = u64_at file (at + 40);
}

unfoldable pub section_header : List ℕ → ℕ → SectionHeader
section_header file at = record {
  sh_type = u32_at file (at + 4);
  sh_flags = u64_at file (at + 8);
  sh_offset = u64_at file (at + 24);
  sh_size = u64_at file (at + 32);
  sh_link = u32_at file (at + 40);
}

unfoldable pub symbol : List ℕ → ℕ → Symbol
symbol file at = record { st_name = u32_at file at; st_info = slice_index file (at + 4); st_value = u64_at file (at + 8) }

-- a segment is loaded and takes memory
abbrev pub is_segment : ProgramHeader → Bool
is_segment p = (p.p_type == PT_LOAD) && nat_lt 0 p.p_memsz

abbrev pub segment_at : List ℕ → Header → ℕ → ProgramHeader
segment_at file h n = program_header file (h.e_phoff + PHDR_SIZE * n)

abbrev pub segments_in : List ℕ → Header → List ProgramHeader
segments_in file h = filter is_segment (map (segment_at file h) (range_with_len 0 h.e_phnum))

abbrev pub section_at : List ℕ → Header → ℕ → SectionHeader
section_at file h n = section_header file (h.e_shoff + SHDR_SIZE * n)

abbrev pub sections_in : List ℕ → Header → List SectionHeader
sections_in file h = map (section_at file h) (range_with_len 0 h.e_shnum)

-- the flag is set
abbrev pub has_flag : ℕ → ℕ → Bool
has_flag flags flag = not (bit_and flags flag == 0)

abbrev pub is_executable : ProgramHeader → Bool
is_executable p = has_flag p.p_flags PF_X

abbrev pub is_writable_segment : ProgramHeader → Bool
is_writable_segment p = has_flag p.p_flags PF_W

-- a table of symbols that is not compressed
abbrev pub is_symbol_table : SectionHeader → Bool
is_symbol_table s = (s.sh_type == SHT_SYMTAB) && not (has_flag s.sh_flags SHF_COMPRESSED)

-- the bytes of a piece of the file
abbrev pub piece : List ℕ → ℕ → ℕ → List ℕ
piece file offset size = take size (drop offset file)

-- a name ends at the first zero byte or with the strings
abbrev pub string_at : List ℕ → ℕ → List ℕ
string_at strings at = before_first (λ byte. byte == 0) (drop at strings)

abbrev pub symbol_at : List ℕ → SectionHeader → ℕ → Symbol
symbol_at file table n = symbol file (table.sh_offset + SYM_SIZE * n)

-- as many as there is room for
abbrev pub symbols_in : List ℕ → SectionHeader → List Symbol
symbols_in file table = map (symbol_at file table) (range_with_len 0 (table.sh_size / SYM_SIZE))

abbrev pub is_function_symbol : Symbol → Bool
is_function_symbol s = s.st_info % 16 == STT_FUNC

-- at a place, where there is one, with a kept name
abbrev pub named_at : Option ℕ → List ℕ → List NamedPlace
named_at None name = []
named_at (Some place) name = record { place = place; name = kept_name name } ∷ []

-- the named place of a symbol: that of a function whose address has a place
abbrev pub named_of : List ProgramHeader → List ℕ → Symbol → List NamedPlace
named_of code strings s = cond (is_function_symbol s) (named_at (place_of_address code s.st_value) (string_at strings s.st_name)) []

-- the named places of a table of symbols
abbrev pub named_in : List ℕ → List ProgramHeader → SectionHeader → List ℕ → List NamedPlace
named_in file code table strings = flat_map (named_of code strings) (symbols_in file table)
