-- What a hart's part of a hold leaves.
use Rattle.std.specs.Prelude.{◌≡◌, ◌<◌, ◌≤◌, ◌+◌, ◌%◌, ◌++◌, ℕ, true, false, List, ◌∷◌, Some, None, All, length}
use Rattle.flat_model.specs.declared.events.Event.{Event}
use Rattle.flat_model.specs.declared.plugins.Ask.{Ask}
use Rattle.flat_model.specs.declared.plugins.SetSpec.{SetSpec}
use Rattle.flat_model.specs.declared.journals.Item.{Item}
use Rattle.flat_model.specs.declared.journals.Item.TheVariants.{Left}
use Rattle.flat_model.specs.declared.limits.TheConstants.{BLOCK_WORDS}
use Rattle.flat_model.specs.Log.{steps, total_steps}
use Rattle.flat_model.specs.Step.{steps_of}
use Rattle.flat_model.specs.World.{HartState, Start, started_hart}
use Rattle.flat_model.specs.Worlds.{world, hart_of}
use Rattle.baton_gate.specs.Logs.{GoesOn}
use Rattle.watcher_api.specs.Attachment.{Attachment}
use Rattle.run_rules.specs.Legal.{Legal, is_there, asks_nothing}
use Rattle.run_rules.specs.Places.{IsStateLog, is_with_hart}
use Rattle.run_order.specs.Sets.{sets_for}
use Rattle.run_order.specs.InOrder.{Task, task_run}
use Rattle.kept_order.specs.Hearing.{specs_for}
use Rattle.script_order.specs.Letting.{LetsBe}
use Rattle.host_state.specs.State.{StateValue, IsCaughtUp}
use Rattle.host_state.specs.Taking.{IsGotBy}
use Rattle.hart_runner.specs.declared.holding.Hold.{Hold}
use Rattle.hart_runner.specs.declared.holding.Hold.TheVariants.{Turned, GaveBack, Waits, Leaves}
use Rattle.hart_runner.specs.declared.tapes.Piece.{Piece}
use Rattle.hart_runner.specs.Stretches.{LieAt, IsPiece, events_of}
use Rattle.hart_runner.specs.Seats.{IsSeated, HasWritten, Own}

-- a parked hart in a hold: it stays as it is until it has its start, and is to be at that then
pub record IsAsleep (t : Task) (h : ℕ) (past : List Item) (hart : HartState) : Type 0 where
  pub parked : hart.parked ≡ true
  pub asleep : (world t.machine t.mode past).shared.starts h ≡ None → hart_of t.machine t.mode past h ≡ hart
  pub woken : (start : Start) → (world t.machine t.mode past).shared.starts h ≡ Some start
      → hart_of t.machine t.mode past h ≡ started_hart h t.machine.harts start

-- what the hart adds to the log, with at most a block's steps; and the state may be given back
pub record IsHold (h : ℕ) (old new : StateValue) : Type 0 where
  pub own : Own h old.past new.past
  pub few : total_steps new.past ≤ total_steps old.past + BLOCK_WORDS
  pub caught_up : IsCaughtUp new
  pub task : new.task ≡ old.task

-- a Turn stands last in the log, but for lines of the script that were placed behind it; the hart's boxes haven't heard its events yet
pub record HasTurned (t : Task) (h : ℕ) (past : List Item) (hart : HartState) (sets : List Attachment) (filters : List (ℕ × SetSpec))
    (told : List Event) : Type 0 where
  pub before : List Item
  pub n : ℕ
  pub some : 0 < n
  pub legal : Legal (task_run t) (steps h n before)
  pub state_log : IsStateLog (task_run t) (steps h n before)
  pub lets_be : LetsBe t h (steps h n before) past
  pub there : is_there (task_run t) h before ≡ true
  pub quiet : asks_nothing (task_run t) h before ≡ true
  pub attached : sets ≡ sets_for is_with_hart (task_run t) h before
  pub specs : filters ≡ specs_for (task_run t) h before
  pub events : told ≡ (steps_of t.machine h n (hart_of t.machine t.mode before h) (world t.machine t.mode before).shared).events
  pub is : hart ≡ hart_of t.machine t.mode past h
  pub awake : hart.parked ≡ false
  pub begins : hart.ending ≡ None → hart.since ≡ 0
  pub below : hart.ending ≡ None → hart.steps < t.machine.limit

-- such a Turn of one block or of several, of which the boxes are to hear the events of the first block and then those of the pieces
pub record HasMade (t : Task) (h : ℕ) (past : List Item) (hart : HartState) (sets : List Attachment) (filters : List (ℕ × SetSpec))
    (first : List Event) (pc : ℕ) (pieces : List Piece) : Type 0 where
  pub told : List Event
  pub turn : HasTurned t h past hart sets filters told
  pub heard : 0 < length sets → told ≡ first ++ events_of pieces
  pub aligned : pc % 4 ≡ 0
  pub lies : LieAt t.machine.image pc first
  pub each : All (IsPiece t.machine.image) pieces

-- the hart may leave
pub record MayLeave (h : ℕ) (s : StateValue) (hart : HartState) (sets : List Attachment) : Type 0 where
  pub open_now : s.short ≡ false
  pub legal : Legal (task_run s.task) (Left h ∷ s.past)
  pub room : 0 < s.journal.spare
  pub is : hart ≡ hart_of s.task.machine s.task.mode s.past h
  pub attached : sets ≡ sets_for is_with_hart (task_run s.task) h s.past

-- what a hart that makes no Turn leaves
abbrev pub IsStill : Hold → ℕ → List Item → StateValue → HartState → List Attachment → List (ℕ × SetSpec) → List Ask → Type 0
IsStill Turned h taken s hart sets filters noted = ⊥
IsStill GaveBack h taken s hart sets filters noted = IsSeated s.task h s.past hart sets filters noted × HasWritten taken s.past
IsStill Waits h taken s hart sets filters noted = IsSeated s.task h s.past hart sets filters noted × GoesOn (IsGotBy h) taken s.past
IsStill Leaves h taken s hart sets filters noted = MayLeave h s hart sets

-- and one that may make a Turn from pc on
abbrev pub IsHeld : Hold → ℕ → List Item → StateValue → HartState → List Attachment → List (ℕ × SetSpec) → List Ask → List Event → ℕ
    → List Piece → Type 0
IsHeld Turned h taken s hart sets filters noted first pc pieces =
    HasMade s.task h s.past hart sets filters first pc pieces × HasWritten taken s.past
IsHeld GaveBack h taken s hart sets filters noted first pc pieces = IsStill GaveBack h taken s hart sets filters noted
IsHeld Waits h taken s hart sets filters noted first pc pieces = IsStill Waits h taken s hart sets filters noted
IsHeld Leaves h taken s hart sets filters noted first pc pieces = IsStill Leaves h taken s hart sets filters noted
