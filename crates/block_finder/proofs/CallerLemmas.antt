-- What a caller's loop over the words of a block cites.
use Rattle.std.proofs.Common.{◌≡◌, ◌+◌, ◌*◌, ◌%◌, ◌^◌, ◌<◌, ℕ, length, slice_index_or, subst, arith}
use Rattle.flat_model.specs.Image.{Program}
use Rattle.block_finder.specs.declared.blocks.Site.{Site}
use Rattle.block_finder.specs.Block.{IsSite, Stretch, IsBlock}

-- a block doesn't reach past the last address
pub ends_in_range : (image : Program) (pc : ℕ) (block : Stretch) (k : ℕ) → pc < 2 ^ 64 → IsBlock image pc block → k < length block.sites
    → pc + 4 * k < 2 ^ 64
ends_in_range image pc block k fits is below = omega (arith, fits, is.long.in_page, is.all, below)

-- the word of a block at place k is the one that a pc comes to which went on by 4 so many times
pub word_behind : (image : Program) (pc : ℕ) (block : Stretch) (k : ℕ) (other : Site) → pc < 2 ^ 64 → IsBlock image pc block
    → k < length block.sites → IsSite image ((pc + 4 * k) % 2 ^ 64) (slice_index_or block.sites k other)
word_behind image pc block k other fits is below =
    let same : pc + 4 * k ≡ (pc + 4 * k) % 2 ^ 64 = omega (arith, ends_in_range image pc block k fits is below) in
    subst (λ at. IsSite image at (slice_index_or block.sites k other)) same (is.sites k other below)
