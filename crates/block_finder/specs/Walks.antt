-- How far a walk over the words of a block has come.
use Rattle.std.specs.Prelude.{◌≤◌, ◌+◌, ◌-◌, ◌*◌, ◌^◌, ℕ}
use Rattle.flat_model.specs.Image.{Program}
use Rattle.flat_model.specs.Blocks.{length_within}
use Rattle.block_finder.specs.declared.walks.Walk.{Walk}

-- a place in reach, and no address in reach that wraps
pub record IsWithin (walk : Walk) : Type 0 where
  pub place : walk.place ≤ walk.end
  pub fits : walk.first + 4 * walk.end ≤ 2 ^ 64

-- the address of the next word
abbrev pub next_pc : Walk → ℕ
next_pc walk = walk.first + 4 * walk.place

-- how many words of the block are still to come
abbrev pub to_come : Program → Walk → ℕ
to_come image walk = length_within image (next_pc walk) (walk.end - walk.place)
