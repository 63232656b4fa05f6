-- Which files load, as which image, and which are refused: the contract of `load`.
use Rattle.std.specs.Prelude.{◌≡◌, ℕ, ◌+◌, ◌-◌, nat_lt, List, ◌++◌, map, filter, replicate, slice_range, Some, None}
use Rattle.flat_model.specs.Image.{Segment, Program}
use Rattle.flat_model.specs.declared.refusals.Refused.{Refused}
use Rattle.flat_model.specs.declared.refusals.Refused.TheVariants.{Because, NoMemory}
use Rattle.elf_image.specs.declared.headers.ProgramHeader.{ProgramHeader}
use Rattle.elf_image.specs.declared.refusals.ImageRefusal.{ImageRefusal}
use Rattle.elf_image.specs.Fields.{segments, e_entry}
use Rattle.elf_image.specs.Rules.{is_readable, is_writable, is_executable, verdict}

-- the file's bytes at the segment's address, and then zeros up to its size in memory
abbrev pub segment_of : List ℕ → ProgramHeader → Segment
segment_of file h = record {
  base = h.address;
  bytes = slice_range file h.offset (h.offset + h.file_size) ++ replicate (h.memory_size - h.file_size) 0;
  r = is_readable h;
  w = is_writable h;
  x = is_executable h;
}

-- a segment for each loadable one that isn't empty in memory, in the order of the table
abbrev pub image_of : List ℕ → Program
image_of file = record {
  regions = map (segment_of file) (filter (λ h. nat_lt 0 h.memory_size) (segments file));
  entry = e_entry file;
}

-- every rule holds of the file, and the image is the file's
pub record Loads (file : List ℕ) (image : Program) : Type 0 where
  pub no_rule_fails : verdict file ≡ None
  pub is_its_image : image ≡ image_of file

-- the refusal is that of the first rule that fails, with its numbers
abbrev pub Refuses : List ℕ → ImageRefusal → Type 0
Refuses file refusal = verdict file ≡ Some refusal

-- an answer other than an image: the file's own refusal, or want of memory
abbrev pub IsRefusal : List ℕ → Refused ImageRefusal → Type 0
IsRefusal file (Because refusal) = Refuses file refusal
IsRefusal file NoMemory = Unit {0}
