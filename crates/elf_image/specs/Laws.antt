-- Laws of which files load.
use Rattle.std.specs.Prelude.{◌≡◌, ◌⊎◌, ◌↔◌, List, ℕ, IsSome}
use Rattle.flat_model.specs.Image.{Program, word_at}
use Rattle.elf_image.specs.declared.refusals.ImageRefusal.{ImageRefusal}
use Rattle.elf_image.specs.Kept.{KeepsRules}
use Rattle.elf_image.specs.Loads.{Loads, Refuses, image_of}

-- a file has at most one image
abbrev pub OneImage : Type 0
OneImage = (file : List ℕ) (image other : Program) → Loads file image → Loads file other → image ≡ other

-- and at most one refusal
abbrev pub OneRefusal : Type 0
OneRefusal = (file : List ℕ) (refusal other : ImageRefusal) → Refuses file refusal → Refuses file other → refusal ≡ other

-- never both
abbrev pub NeverBoth : Type 0
NeverBoth = (file : List ℕ) (image : Program) (refusal : ImageRefusal) → Loads file image → Refuses file refusal → ⊥

-- and always one of them
abbrev pub AlwaysOne : Type 0
AlwaysOne = (file : List ℕ) → Loads file (image_of file) ⊎ ((refusal : ImageRefusal) × Refuses file refusal)

-- the first word of an image is present
abbrev pub EntersCode : Type 0
EntersCode = (file : List ℕ) (image : Program) → Loads file image → IsSome (word_at image image.entry)

-- a file loads exactly where it keeps each rule
abbrev pub LoadsByRules : Type 0
LoadsByRules = (file : List ℕ) → Loads file (image_of file) ↔ KeepsRules file
