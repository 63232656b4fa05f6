-- From the answers of the checks to the answer of `load`.
use Rattle.std.proofs.Common.{◌≡◌, ℕ, ◌+◌, ◌≤◌, ltb, List, length, map, filter, Some, None, refl}
use Rattle.std.specs.List.{All}
use Rattle.std.proofs.lemmas.List.Elements.{All-from_recursion}
use Rattle.flat_model.specs.Image.{Segment}
use Rattle.elf_image.specs.declared.headers.ProgramHeader.{ProgramHeader}
use Rattle.elf_image.specs.declared.refusals.ImageRefusal.{ImageRefusal}
use Rattle.elf_image.specs.Checks.{header_rules, segment_rules}
use Rattle.elf_image.specs.Fields.{segments, e_entry}
use Rattle.elf_image.specs.Loads.{segment_of, image_of}
use Rattle.elf_image.specs.Rules.{first_of, verdict}
use Rattle.elf_image.proofs.ImageLaws.{IsGood, sound}
use Rattle.elf_image.proofs.Pairs.{each-weaker}
use Rattle.elf_image.proofs.RuleLaws.{stops, goes_on}

-- a refusal by the headers is the file's
pub refused_early : (file : List ℕ) (refusal : ImageRefusal)
    → first_of (header_rules file) ≡ Some refusal
    → verdict file ≡ Some refusal
unfolding verdict
refused_early file refusal e = stops (header_rules file) (segment_rules file) refusal e

-- where the headers have none, the segments decide
pub late : (file : List ℕ) → first_of (header_rules file) ≡ None
    → verdict file ≡ first_of (segment_rules file)
unfolding verdict
late file e = goes_on (header_rules file) (segment_rules file) e

pub all_inside : (file : List ℕ) (loads : List ProgramHeader) → loads ≡ segments file
    → first_of (segment_rules file) ≡ None → All (λ h. h.offset + h.file_size ≤ length file) loads
all_inside file loads is e = rw is (All-from_recursion (λ h. h.offset + h.file_size ≤ length file) (segments file) (each-weaker (IsGood file) (λ h. h.offset + h.file_size ≤ length file) (λ h good. good.inside) (segments file) (sound file e).each))

pub all_sizes : (file : List ℕ) (loads : List ProgramHeader) → loads ≡ segments file
    → first_of (segment_rules file) ≡ None → All (λ h. h.file_size ≤ h.memory_size) loads
all_sizes file loads is e = rw is (All-from_recursion (λ h. h.file_size ≤ h.memory_size) (segments file) (each-weaker (IsGood file) (λ h. h.file_size ≤ h.memory_size) (λ h good. good.sizes) (segments file) (sound file e).each))

-- what was built is the file's image
pub built : (file : List ℕ) (loads : List ProgramHeader) (regions : List Segment) (entry : ℕ) → loads ≡ segments file
    → regions ≡ map (segment_of file) (filter (λ h. ltb 0 h.memory_size) loads) → entry ≡ e_entry file
    → record { regions = regions; entry = entry } ≡ image_of file
built file loads regions entry loads-are regions-are entry-is = rw (regions-are, entry-is, loads-are) refl
