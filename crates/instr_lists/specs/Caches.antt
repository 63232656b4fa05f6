-- What a cache of lists keeps.
use Rattle.std.specs.Prelude.{◌≡◌, ◌⊎◌, ◌==◌, ◌&&◌, ℕ, Bool, false, List, All, Contains, slice_get}
use Rattle.std.specs.Option.{option_map_or}
use Rattle.flat_model.specs.declared.plugins.SetSpec.{SetSpec}
use Rattle.block_finder.specs.Block.{Stretch}
use Rattle.instr_lists.specs.declared.kept_lists.KeptList.{KeptList}

-- a list of this generation is for these sets, and one of a block at the same address is of this block
pub record Agrees (generation : ℕ) (block : Stretch) (sets : List (ℕ × SetSpec)) (kept : KeptList) : Type 0 where
  pub same_sets : kept.generation ≡ generation → kept.list.sets ≡ sets
  pub same_block : kept.list.block.pc ≡ block.pc → kept.list.block ≡ block

-- the cache may serve: each list that it keeps agrees
abbrev pub MayServe : ℕ → Stretch → List (ℕ × SetSpec) → List KeptList → Type 0
MayServe generation block sets kept = All (Agrees generation block sets) kept

-- the list that is asked for
abbrev pub asked_for : ℕ → Stretch → List (ℕ × SetSpec) → KeptList
asked_for generation block sets = record { generation = generation; list = record { block = block; sets = sets } }

-- what is kept then was kept before or is what was asked for
abbrev pub AreFrom : KeptList → List KeptList → List KeptList → Type 0
AreFrom asked old new = All (λ kept. Contains old kept ⊎ (kept ≡ asked)) new

-- whether a list of the generation for a block at pc stands at the place
abbrev pub stands_at : ℕ → ℕ → ℕ → List KeptList → Bool
stands_at generation pc place kept =
    option_map_or (λ k. (k.generation == generation) && (k.list.block.pc == pc)) (slice_get kept place) false
