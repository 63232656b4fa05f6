-- The events of steps through a block lie in the block, so that the lists of the block deliver them.
use Rattle.std.specs.Prelude.{◌≡◌, ◌<◌, ◌%◌, ◌^◌, ℕ, false, None, All}
use Rattle.flat_model.specs.Step.{starts_block, steps_of}
use Rattle.flat_model.specs.World.{Machine, HartState, Shared}
use Rattle.block_finder.specs.Block.{Stretch, IsBlock}
use Rattle.instr_lists.specs.Sorts.{LiesIn}

-- behind j steps the hart runs, and only the first of its steps starts a block
pub record GoesInside (j : ℕ) (hart : HartState) : Type 0 where
  pub running : hart.ending ≡ None
  pub inside : 0 < j → starts_block hart ≡ false

abbrev pub EventsLieInBlocks : Type 0
EventsLieInBlocks = (m : Machine) (h k : ℕ) (hart : HartState) (shared : Shared) (block : Stretch)
    → IsBlock m.image hart.pc block → hart.since ≡ 0 → hart.pc % 4 ≡ 0 → hart.pc < 2 ^ 64
    → ((j : ℕ) → j < k → GoesInside j (steps_of m h j hart shared).hart)
    → All (λ e. LiesIn block e.what) (steps_of m h k hart shared).events
