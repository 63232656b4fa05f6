-- What the private checks of the loader answer.
use Rattle.std.specs.Prelude.{◌≡◌, ℕ, ◌+◌, ◌*◌, ◌<◌, ◌≤◌, List, [], ◌∷◌, ◌++◌, length, Option, Some}
use Rattle.std.specs.Prelude.{None, Result, Ok, Err}
use Rattle.elf_image.specs.declared.format.TheConstants.{ELF_HEADER_BYTES, PROGRAM_HEADER_BYTES}
use Rattle.elf_image.specs.declared.refusals.ImageRefusal.{ImageRefusal}
use Rattle.elf_image.specs.Fields.{e_phoff, e_phnum}
use Rattle.elf_image.specs.Rules.{long_enough, has_magic, is_rv64, is_static, not_compressed, header_size, headers_inside}
use Rattle.elf_image.specs.Rules.{no_interpreter, few_segments, inside_file, sizes_in_order, in_range, code_not_writable}
use Rattle.elf_image.specs.Rules.{apart, small_enough, enters_code}

-- a check's answer is the rule's
abbrev pub Answers : {A : Type 0} → Result A ImageRefusal → Option ImageRefusal → Type 0
Answers (Ok done) rule = rule ≡ None
Answers (Err refusal) rule = rule ≡ Some refusal

-- the ELF header and the program header table lie in the file
pub record HasTable (file : List ℕ) : Type 0 where
  pub header : ELF_HEADER_BYTES ≤ length file
  pub table : 0 < e_phnum file → e_phoff file + PROGRAM_HEADER_BYTES * e_phnum file ≤ length file

-- The rules in groups, each of which a check goes through.

abbrev pub identity_rules : List ℕ → List (Option ImageRefusal)
identity_rules file = long_enough file ∷ has_magic file ∷ is_rv64 file ∷ []

abbrev pub kind_rules : List ℕ → List (Option ImageRefusal)
kind_rules file = is_static file ∷ not_compressed file ∷ []

abbrev pub place_rules : List ℕ → List (Option ImageRefusal)
place_rules file = header_size file ∷ headers_inside file ∷ []

abbrev pub table_rules : List ℕ → List (Option ImageRefusal)
table_rules file = no_interpreter file ∷ few_segments file ∷ []

abbrev pub header_rules : List ℕ → List (Option ImageRefusal)
header_rules file = identity_rules file ++ kind_rules file ++ place_rules file ++ table_rules file

abbrev pub each_rules : List ℕ → List (Option ImageRefusal)
each_rules file = inside_file file ∷ sizes_in_order file ∷ in_range file ∷ code_not_writable file ∷ []

abbrev pub whole_rules : List ℕ → List (Option ImageRefusal)
whole_rules file = apart file ∷ small_enough file ∷ enters_code file ∷ []

abbrev pub segment_rules : List ℕ → List (Option ImageRefusal)
segment_rules file = each_rules file ++ whole_rules file
