-- The lists that a hart keeps while its sets change.
use Rattle.std.specs.Prelude.{◌≡◌, ◌≤◌, ℕ, List, All}
use Rattle.flat_model.specs.declared.plugins.SetSpec.{SetSpec}
use Rattle.flat_model.specs.Image.{Program}
use Rattle.block_finder.specs.Block.{IsBlock}
use Rattle.instr_lists.specs.declared.kept_lists.KeptList.{KeptList}

-- a list of the image's block at its address, of a generation up to the present one; one of the present generation is for these sets
pub record IsList (image : Program) (generation : ℕ) (sets : List (ℕ × SetSpec)) (kept : KeptList) : Type 0 where
  pub past : kept.generation ≤ generation
  pub same_sets : kept.generation ≡ generation → kept.list.sets ≡ sets
  pub of_image : IsBlock image kept.list.block.pc kept.list.block

abbrev pub AreLists : Program → ℕ → List (ℕ × SetSpec) → List KeptList → Type 0
AreLists image generation sets kept = All (IsList image generation sets) kept
