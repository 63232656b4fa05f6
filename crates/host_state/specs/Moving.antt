-- Steps that a hart makes by itself, and the rest of its block.
use Rattle.std.specs.Prelude.{◌≡◌, ◌<◌, ◌≤◌, ◌+◌, ◌*◌, ℕ, false, List, [], length, None}
use Rattle.flat_model.specs.declared.events.Event.{Event}
use Rattle.flat_model.specs.declared.limits.TheConstants.{BLOCK_WORDS}
use Rattle.flat_model.specs.Image.{Program}
use Rattle.flat_model.specs.World.{Machine, HartState, Shared}
use Rattle.flat_model.specs.Step.{starts_block, steps_of}
use Rattle.block_finder.specs.Block.{Stretch}
use Rattle.private_runs.specs.Runs.{ArePrivateSteps, AreOfRun, Stops, GoesStraightBy}
use Rattle.shared_runs.specs.Runs.{AreSharedSteps, RunsOn}

-- what k steps leave of a hart, and that they leave what is shared as it was
pub record IsMovedAlone (m : Machine) (h k : ℕ) (old new : HartState) (around : Shared) : Type 0 where
  pub hart : (steps_of m h k old around).hart ≡ new
  pub shared : (steps_of m h k old around).shared ≡ around

-- in every world whose group hasn't ended
abbrev pub MovesAlone : Machine → ℕ → ℕ → HartState → HartState → Type 0
MovesAlone m h k old new = (shared : Shared) → shared.group ≡ None → IsMovedAlone m h k old new shared

-- a private run of hart h from the start of its block, with the events that it tells
pub record IsPrivateTurn (image : Program) (limit h k : ℕ) (old new : HartState) (events : List Event) : Type 0 where
  pub steps : ArePrivateSteps image limit h k old new [] events
  pub each : AreOfRun image limit h k old
  pub stops : Stops image BLOCK_WORDS k new
  pub straight : GoesStraightBy k old new
  pub few : length events ≤ k + 3
  pub most : k ≤ BLOCK_WORDS
  pub unchanged : k ≡ 0 → new ≡ old
  pub untold : k ≡ 0 → events ≡ []
  pub awake : new.parked ≡ false
  pub within_limit : new.ending ≡ None → new.steps < limit

-- a hart that has made k steps of its block and is still inside
pub record StaysInside (k : ℕ) (hart : HartState) : Type 0 where
  pub running : hart.ending ≡ None
  pub inside : 0 < k → 0 < hart.since

-- a hart at word k of a block
pub record IsAtWord (k : ℕ) (block : Stretch) (hart : HartState) : Type 0 where
  pub within : k < length block.sites
  pub place : hart.pc ≡ block.pc + 4 * k
  pub since : hart.since ≡ k

-- r more steps of hart h, which has made k of its block: each is a step of a hart that runs, and none but the block's first starts a block
pub record IsRest (m : Machine) (h k r : ℕ) (old new : HartState) (shared left : Shared) (before after : List Event) : Type 0 where
  pub steps : AreSharedSteps m h r old new shared left before after
  pub each : (j : ℕ) → j < r → RunsOn (steps_of m h j old shared)
  pub stays : 0 < r → StaysInside k old
  pub inside : (j : ℕ) → 0 < j → j < r → starts_block (steps_of m h j old shared).hart ≡ false
