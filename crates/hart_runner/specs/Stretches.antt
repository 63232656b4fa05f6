-- What a hart makes in one hold behind its first block.
use Rattle.std.specs.Prelude.{◌≡◌, ◌<◌, ◌≤◌, ◌%◌, ◌++◌, ℕ, Bool, true, false, List, [], ◌∷◌, None, All}
use Rattle.flat_model.specs.declared.events.Event.{Event}
use Rattle.flat_model.specs.declared.journals.Item.{Item}
use Rattle.flat_model.specs.Image.{Program}
use Rattle.flat_model.specs.Log.{steps, total_steps}
use Rattle.flat_model.specs.Step.{steps_of}
use Rattle.flat_model.specs.World.{HartState}
use Rattle.flat_model.specs.Worlds.{world, hart_of}
use Rattle.block_finder.specs.Block.{Stretch, IsBlock}
use Rattle.instr_lists.specs.Sorts.{LiesIn}
use Rattle.run_rules.specs.Legal.{Legal}
use Rattle.run_rules.specs.Places.{IsStateLog}
use Rattle.run_order.specs.InOrder.{Task, task_run}
use Rattle.host_state.specs.Scripting.{LetsAllBe}
use Rattle.host_state.specs.State.{StateValue, IsCaughtUp}
use Rattle.hart_runner.specs.declared.tapes.Piece.{Piece}
use Rattle.hart_runner.specs.Seats.{Own}

-- a hart in the state's log: it has ended, or it runs and is at the start of a block
pub record IsGoing (s : StateValue) (h : ℕ) (hart : HartState) : Type 0 where
  pub is : hart ≡ hart_of s.task.machine s.task.mode s.past h
  pub awake : hart.parked ≡ false
  pub leaves : hart.ending ≡ None → hart.since ≡ 0
  pub within_limit : hart.ending ≡ None → hart.steps < s.task.machine.limit
  pub going_on : hart.ending ≡ None → s.services.group ≡ None

-- events of the image's block at an address
abbrev pub LieAt : Program → ℕ → List Event → Type 0
LieAt image pc events = (block : Stretch) → IsBlock image pc block → All (λ e. LiesIn block e.what) events

-- a piece that can be heard
pub record IsPiece (image : Program) (piece : Piece) : Type 0 where
  pub kept : piece.raw.kept ≡ true
  pub aligned : piece.pc % 4 ≡ 0
  pub lies : LieAt image piece.pc piece.raw.events

-- the events of pieces, in their order
abbrev pub events_of : List Piece → List Event
events_of [] = []
events_of (piece ∷ pieces) = piece.raw.events ++ events_of pieces

-- the hart's Turn went on by so many steps: where it has sets, pieces were added for their events
pub record GoesOnBy (t : Task) (h r : ℕ) (old new : List Item) (before after : HartState) (has_sets : Bool) (first last : List Piece)
    : Type 0 where
  pub told : List Event
  pub made : new ≡ steps h r old
  pub is : after ≡ hart_of t.machine t.mode new h
  pub events : told ≡ (steps_of t.machine h r before (world t.machine t.mode old).shared).events
  pub heard : has_sets ≡ true → events_of last ≡ events_of first ++ told
  pub each : All (IsPiece t.machine.image) first → All (IsPiece t.machine.image) last

-- a Turn that is recorded, from before to after
pub record IsCommitted (h n : ℕ) (old new : StateValue) (before after : HartState) (told : List Event) : Type 0 where
  pub made : new.past ≡ steps h n old.past
  pub some : 0 < n
  pub most : n ≤ 512
  pub is : after ≡ hart_of new.task.machine new.task.mode new.past h
  pub events : told ≡ (steps_of old.task.machine h n before (world old.task.machine old.task.mode old.past).shared).events
  pub legal : Legal (task_run new.task) new.past
  pub state_log : IsStateLog (task_run new.task) new.past
  pub task : new.task ≡ old.task
  pub awake : after.parked ≡ false
  pub leaves : after.ending ≡ None → after.since ≡ 0
  pub within_limit : after.ending ≡ None → after.steps < old.task.machine.limit

-- lines of the script were placed behind a Turn of hart h
pub record HasPlaced (h : ℕ) (old new : StateValue) : Type 0 where
  pub own : Own h old.past new.past
  pub total : total_steps new.past ≡ total_steps old.past
  pub lets_be : LetsAllBe old.task old.past new.past
  pub caught_up : IsCaughtUp new
  pub task : new.task ≡ old.task
