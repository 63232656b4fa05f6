-- The lists that a cache keeps in a run of one image with the same sets.
use Rattle.std.specs.Prelude.{◌≡◌, ℕ, List, All}
use Rattle.flat_model.specs.declared.plugins.SetSpec.{SetSpec}
use Rattle.flat_model.specs.Image.{Program}
use Rattle.block_finder.specs.Block.{IsBlock}
use Rattle.instr_lists.specs.declared.kept_lists.KeptList.{KeptList}

-- a list for these sets, of the image's block at its address
pub record IsFor (image : Program) (sets : List (ℕ × SetSpec)) (kept : KeptList) : Type 0 where
  pub same_sets : kept.list.sets ≡ sets
  pub of_image : IsBlock image kept.list.block.pc kept.list.block

abbrev pub AreFor : Program → List (ℕ × SetSpec) → List KeptList → Type 0
AreFor image sets kept = All (IsFor image sets) kept
