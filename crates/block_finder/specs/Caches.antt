-- What a cache of blocks keeps.
use Rattle.std.specs.Prelude.{◌≡◌, ℕ, ◌==◌, Bool, false, List, [], All, Option, None, Some, slice_get}
use Rattle.std.specs.Option.{option_map_or}
use Rattle.flat_model.specs.Image.{Program}
use Rattle.block_finder.specs.Block.{Stretch, IsBlock}

-- the cache serves this image or none so far
abbrev pub MayServe : Option Program → Program → Type 0
MayServe None image = Unit {0}
MayServe (Some served) image = served ≡ image

-- each is the block of the image at its own address
abbrev pub AreOf : Program → List Stretch → Type 0
AreOf image blocks = All (λ block. IsBlock image block.pc block) blocks

-- the blocks that are kept for the image that is served
abbrev pub IsServing : Option Program → List Stretch → Type 0
IsServing None blocks = blocks ≡ []
IsServing (Some served) blocks = AreOf served blocks

-- whether a block at pc stands at the place
abbrev pub stands_at : ℕ → ℕ → List Stretch → Bool
stands_at pc place blocks = option_map_or (λ block. block.pc == pc) (slice_get blocks place) false
