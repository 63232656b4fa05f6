-- What a file that loads keeps, rule by rule.
use Rattle.std.specs.Prelude.{◌≡◌, ◌≢◌, ◌≤◌, ◌<◌, ◌+◌, ◌*◌, ◌%◌, ℕ, true, false, List, length}
use Rattle.std.specs.Prelude.{slice_index, sum_by, All, AllPairs, Any}
use Rattle.flat_model.specs.Fields.{flag}
use Rattle.flat_model.specs.declared.limits.TheConstants.{FILE_MOST, SEGMENTS_MOST, SEGMENTS_END}
use Rattle.elf_image.specs.declared.format.TheConstants.{ELF_HEADER_BYTES, PROGRAM_HEADER_BYTES, EI_MAG, EI_CLASS, EI_DATA, EI_VERSION}
use Rattle.elf_image.specs.declared.format.TheConstants.{ELFMAG}
use Rattle.elf_image.specs.declared.format.TheConstants.{ELFCLASS64, ELFDATA2LSB, EV_CURRENT, EM_RISCV, ET_EXEC, EF_RISCV_RVC_BIT}
use Rattle.elf_image.specs.declared.format.TheConstants.{PT_INTERP}
use Rattle.elf_image.specs.declared.headers.ProgramHeader.{ProgramHeader}
use Rattle.elf_image.specs.Fields.{u32_at, e_type, e_machine, e_entry, e_phoff, e_flags, e_phentsize, e_phnum, headers, segments}
use Rattle.elf_image.specs.Rules.{is_executable, is_writable, memory_end}

-- the address is one of the segment's
pub record IsIn (addr : ℕ) (h : ProgramHeader) : Type 0 where
  pub from : h.address ≤ addr
  pub below : addr < memory_end h

-- the word at the address can be executed in the segment
pub record IsCode (addr : ℕ) (h : ProgramHeader) : Type 0 where
  pub executable : is_executable h ≡ true
  pub from : h.address ≤ addr
  pub to : addr + 4 ≤ memory_end h

-- no address is in both segments
abbrev pub AreDisjoint : ProgramHeader → ProgramHeader → Type 0
AreDisjoint s t = (addr : ℕ) → IsIn addr s → IsIn addr t → ⊥

pub record KeepsRules (file : List ℕ) : Type 0 where
  pub long_enough : ELF_HEADER_BYTES ≤ length file
  pub magic : u32_at file EI_MAG ≡ ELFMAG
  pub class : slice_index file EI_CLASS ≡ ELFCLASS64
  pub little_endian : slice_index file EI_DATA ≡ ELFDATA2LSB
  pub version : slice_index file EI_VERSION ≡ EV_CURRENT
  pub machine : e_machine file ≡ EM_RISCV
  pub static : e_type file ≡ ET_EXEC
  pub not_compressed : flag (e_flags file) EF_RISCV_RVC_BIT ≡ false
  pub header_size : 0 < e_phnum file → e_phentsize file ≡ PROGRAM_HEADER_BYTES
  pub headers_inside : 0 < e_phnum file → e_phoff file + PROGRAM_HEADER_BYTES * e_phnum file ≤ length file
  pub no_interpreter : All (λ h. h.kind ≢ PT_INTERP) (headers file)
  pub few_segments : length (segments file) ≤ SEGMENTS_MOST
  pub inside_file : All (λ h. h.offset + h.file_size ≤ length file) (segments file)
  pub sizes_in_order : All (λ h. h.file_size ≤ h.memory_size) (segments file)
  pub in_range : All (λ h. memory_end h ≤ SEGMENTS_END) (segments file)
  pub code_not_writable : All (λ h. is_writable h ≡ true → is_executable h ≡ false) (segments file)
  pub apart : AllPairs AreDisjoint (segments file)
  pub small_enough : sum_by (λ h. h.memory_size) (segments file) ≤ FILE_MOST
  pub aligned : e_entry file % 4 ≡ 0
  pub enters_code : Any (IsCode (e_entry file)) (segments file)
