-- The fields of an ELF64 file that the loader looks at, little-endian, by offset and width
-- (ELF64 object file format, "ELF header" and "Program header table").
use Rattle.std.specs.Prelude.{ℕ, zero, suc, ◌+◌, ◌*◌, ◌^◌, Bool, ◌==◌, List, [], ◌∷◌, slice_index, filter}
use Rattle.elf_image.specs.declared.format.TheConstants.{PROGRAM_HEADER_BYTES, E_TYPE, E_MACHINE, E_ENTRY, E_PHOFF, E_FLAGS, E_PHENTSIZE}
use Rattle.elf_image.specs.declared.format.TheConstants.{E_PHNUM, P_TYPE, P_FLAGS, P_OFFSET, P_VADDR, P_FILESZ, P_MEMSZ, PT_LOAD, PT_INTERP}
use Rattle.elf_image.specs.declared.headers.ProgramHeader.{ProgramHeader}

-- the numbers of 2, 4 and 8 bytes from an offset on
unfoldable pub u16_at : List ℕ → ℕ → ℕ
u16_at file offset = slice_index file offset + 2 ^ 8 * slice_index file (offset + 1)

unfoldable pub u32_at : List ℕ → ℕ → ℕ
u32_at file offset = u16_at file offset + 2 ^ 16 * u16_at file (offset + 2)

unfoldable pub u64_at : List ℕ → ℕ → ℕ
u64_at file offset = u32_at file offset + 2 ^ 32 * u32_at file (offset + 4)

-- the ELF header
abbrev pub e_type : List ℕ → ℕ
e_type file = u16_at file E_TYPE

abbrev pub e_machine : List ℕ → ℕ
e_machine file = u16_at file E_MACHINE

abbrev pub e_entry : List ℕ → ℕ
e_entry file = u64_at file E_ENTRY

abbrev pub e_phoff : List ℕ → ℕ
e_phoff file = u64_at file E_PHOFF

abbrev pub e_flags : List ℕ → ℕ
e_flags file = u32_at file E_FLAGS

abbrev pub e_phentsize : List ℕ → ℕ
e_phentsize file = u16_at file E_PHENTSIZE

abbrev pub e_phnum : List ℕ → ℕ
e_phnum file = u16_at file E_PHNUM

-- the program header that begins at an offset and stands at a place of the table
unfoldable pub header_at : List ℕ → ℕ → ℕ → ProgramHeader
header_at file offset index = record {
  index = index;
  kind = u32_at file (offset + P_TYPE);
  flags = u32_at file (offset + P_FLAGS);
  offset = u64_at file (offset + P_OFFSET);
  address = u64_at file (offset + P_VADDR);
  file_size = u64_at file (offset + P_FILESZ);
  memory_size = u64_at file (offset + P_MEMSZ);
}

-- n program headers, from the place `index` of the table on
unfoldable pub headers_from : List ℕ → ℕ → ℕ → List ProgramHeader
headers_from file index zero = []
headers_from file index (suc n) = header_at file (e_phoff file + PROGRAM_HEADER_BYTES * index) index ∷ headers_from file (suc index) n

-- the program header table
abbrev pub headers : List ℕ → List ProgramHeader
headers file = headers_from file 0 (e_phnum file)

abbrev pub is_load : ProgramHeader → Bool
is_load h = h.kind == PT_LOAD

abbrev pub is_interpreter : ProgramHeader → Bool
is_interpreter h = h.kind == PT_INTERP

-- the loadable segments, in the order of the table
abbrev pub segments : List ℕ → List ProgramHeader
segments file = filter is_load (headers file)
