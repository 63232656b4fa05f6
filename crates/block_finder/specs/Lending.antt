-- What a cache is once the block that it lent is given back.
use Rattle.std.specs.Prelude.{◌≡◌, ⊤, Some, Option}
use Rattle.std.specs.Borrow.{follows_so, MutBor, Fml}
use mathlib.Core.Option.{none}
use Rattle.flat_model.specs.Image.{Program}
use Rattle.block_finder.specs.contracts.caching.BlockCache.{the_row}

-- it serves the image
abbrev pub ServesFromThen : MutBor (Option Program) → Program → Fml
ServesFromThen cache image =
    follows_so the_row the_row cache.ghost_name none (λ _ _. ⊤) (λ last. last ≡ Some image)
