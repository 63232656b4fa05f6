-- The rules of an ELF64 file that loads, in their order, each with its refusal and the numbers in it.
use Rattle.std.specs.Prelude.{ℕ, ◌+◌, ◌*◌, ◌%◌, min, max, Bool, not, ◌&&◌, ◌||◌, ◌==◌, nat_lt, nat_le}
use Rattle.std.specs.Prelude.{if◌then◌else◌}
use Rattle.std.specs.Prelude.{List, [], ◌∷◌, ◌++◌, length, slice_index, find, sum_by, Option, Some, None, option_map}
use Rattle.std.specs.List.{list_any}
use Rattle.flat_model.specs.Fields.{flag}
use Rattle.flat_model.specs.declared.limits.TheConstants.{FILE_MOST, SEGMENTS_MOST, SEGMENTS_END}
use Rattle.elf_image.specs.declared.format.TheConstants.{ELF_HEADER_BYTES, PROGRAM_HEADER_BYTES, EI_MAG, EI_CLASS, EI_DATA, EI_VERSION}
use Rattle.elf_image.specs.declared.format.TheConstants.{ELFMAG}
use Rattle.elf_image.specs.declared.format.TheConstants.{ELFCLASS64, ELFDATA2LSB, EV_CURRENT, EM_RISCV, ET_EXEC}
use Rattle.elf_image.specs.declared.format.TheConstants.{EF_RISCV_RVC_BIT, PF_X_BIT, PF_W_BIT, PF_R_BIT}
use Rattle.elf_image.specs.declared.headers.ProgramHeader.{ProgramHeader}
use Rattle.elf_image.specs.declared.refusals.ImageRefusal.{ImageRefusal}
use Rattle.elf_image.specs.declared.refusals.ImageRefusal.TheVariants.{Short, NotElf, NotRv64, NotStatic, Compressed, BadHeaders}
use Rattle.elf_image.specs.declared.refusals.ImageRefusal.TheVariants.{HeadersPastEnd, Interpreted, TooMany, SegmentPastEnd, SizesCross}
use Rattle.elf_image.specs.declared.refusals.ImageRefusal.TheVariants.{AddressRange, WritableCode, Overlap, TooLarge, EntryNotCode}
use Rattle.elf_image.specs.Fields.{u32_at, e_type, e_machine, e_entry, e_phoff, e_flags, e_phentsize, e_phnum}
use Rattle.elf_image.specs.Fields.{headers, is_interpreter, segments}

-- None where the condition holds, else the refusal
abbrev pub unless : Bool → ImageRefusal → Option ImageRefusal
unless holds refusal = if holds then None else Some refusal

-- None where no header breaks the rule, else the refusal of the first that does
abbrev pub unless_any : (ProgramHeader → Bool) → (ℕ → ImageRefusal) → List ProgramHeader → Option ImageRefusal
unless_any breaks refusal headers = option_map (λ h. refusal h.index) (find breaks headers)

-- the first that there is
abbrev pub first_of : List (Option ImageRefusal) → Option ImageRefusal
first_of [] = None
first_of (None ∷ rest) = first_of rest
first_of (Some refusal ∷ rest) = Some refusal

-- The flags of a segment.

abbrev pub is_executable : ProgramHeader → Bool
is_executable h = flag h.flags PF_X_BIT

abbrev pub is_writable : ProgramHeader → Bool
is_writable h = flag h.flags PF_W_BIT

abbrev pub is_readable : ProgramHeader → Bool
is_readable h = flag h.flags PF_R_BIT

-- the first address past a segment
abbrev pub memory_end : ProgramHeader → ℕ
memory_end h = h.address + h.memory_size

-- whether some address lies in both segments
abbrev pub overlaps : ProgramHeader → ProgramHeader → Bool
overlaps s t = nat_lt (max s.address t.address) (min (memory_end s) (memory_end t))

-- whether the four bytes from an address lie in the segment and can be executed
abbrev pub has_code : ℕ → ProgramHeader → Bool
has_code addr h = is_executable h && (nat_le h.address addr && nat_le (addr + 4) (memory_end h))

-- The rules of the ELF header and of the table's place.

unfoldable pub long_enough : List ℕ → Option ImageRefusal
long_enough file = unless (nat_le ELF_HEADER_BYTES (length file)) (Short ELF_HEADER_BYTES (length file))

unfoldable pub has_magic : List ℕ → Option ImageRefusal
has_magic file = unless (u32_at file EI_MAG == ELFMAG) NotElf

-- class 64, little-endian, version 1, RISC-V
abbrev pub is_riscv64 : List ℕ → Bool
is_riscv64 file =
    slice_index file EI_CLASS == ELFCLASS64 && slice_index file EI_DATA == ELFDATA2LSB
    && slice_index file EI_VERSION == EV_CURRENT && e_machine file == EM_RISCV

unfoldable pub is_rv64 : List ℕ → Option ImageRefusal
is_rv64 file = unless (is_riscv64 file) NotRv64

unfoldable pub is_static : List ℕ → Option ImageRefusal
is_static file = unless (e_type file == ET_EXEC) NotStatic

unfoldable pub not_compressed : List ℕ → Option ImageRefusal
not_compressed file = unless (not (flag (e_flags file) EF_RISCV_RVC_BIT)) Compressed

unfoldable pub header_size : List ℕ → Option ImageRefusal
header_size file = unless (e_phnum file == 0 || e_phentsize file == PROGRAM_HEADER_BYTES) (BadHeaders (e_phentsize file))

unfoldable pub headers_inside : List ℕ → Option ImageRefusal
headers_inside file =
    let need = e_phoff file + PROGRAM_HEADER_BYTES * e_phnum file in
    unless (e_phnum file == 0 || nat_le need (length file)) (HeadersPastEnd need (length file))

-- The rules of the program header table.

unfoldable pub no_interpreter : List ℕ → Option ImageRefusal
no_interpreter file = unless_any is_interpreter Interpreted (headers file)

unfoldable pub few_segments : List ℕ → Option ImageRefusal
few_segments file = unless (nat_le (length (segments file)) SEGMENTS_MOST) (TooMany (length (segments file)))

-- The rules of the loadable segments, of which each goes over all of them.

unfoldable pub inside_file : List ℕ → Option ImageRefusal
inside_file file = unless_any (λ h. nat_lt (length file) (h.offset + h.file_size)) SegmentPastEnd (segments file)

unfoldable pub sizes_in_order : List ℕ → Option ImageRefusal
sizes_in_order file = unless_any (λ h. nat_lt h.memory_size h.file_size) SizesCross (segments file)

unfoldable pub in_range : List ℕ → Option ImageRefusal
in_range file = unless_any (λ h. nat_lt SEGMENTS_END (memory_end h)) AddressRange (segments file)

unfoldable pub code_not_writable : List ℕ → Option ImageRefusal
code_not_writable file = unless_any (λ h. is_writable h && is_executable h) WritableCode (segments file)

-- the refusal of a segment that shares an address with an earlier one: the first of those
abbrev pub overlap_of : List ProgramHeader → ProgramHeader → Option ImageRefusal
overlap_of before second = option_map (λ h. Overlap h.index second.index) (find (λ h. overlaps h second) before)

-- the refusal of the first segment that shares an address with an earlier one
unfoldable pub overlap_after : List ProgramHeader → List ProgramHeader → Option ImageRefusal
overlap_after before [] = None
overlap_after before (second ∷ rest) = first_of (overlap_of before second ∷ overlap_after (before ++ second ∷ []) rest ∷ [])

unfoldable pub apart : List ℕ → Option ImageRefusal
apart file = overlap_after [] (segments file)

-- 64 MiB of memory in all
unfoldable pub small_enough : List ℕ → Option ImageRefusal
small_enough file =
    let bytes = sum_by (λ h. h.memory_size) (segments file) in
    unless (nat_le bytes FILE_MOST) (TooLarge bytes)

-- the entry is a multiple of 4, and an executable segment has its four bytes
unfoldable pub enters_code : List ℕ → Option ImageRefusal
enters_code file =
    unless (e_entry file % 4 == 0 && list_any (has_code (e_entry file)) (segments file)) (EntryNotCode (e_entry file))

-- all rules in their order
abbrev pub rules : List ℕ → List (Option ImageRefusal)
rules file =
    long_enough file ∷ has_magic file ∷ is_rv64 file ∷ is_static file ∷ not_compressed file
    ∷ header_size file ∷ headers_inside file
    ∷ no_interpreter file ∷ few_segments file
    ∷ inside_file file ∷ sizes_in_order file ∷ in_range file ∷ code_not_writable file
    ∷ apart file ∷ small_enough file ∷ enters_code file ∷ []

-- the refusal of the first rule that fails
unfoldable pub verdict : List ℕ → Option ImageRefusal
verdict file = first_of (rules file)
