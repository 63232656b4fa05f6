-- What a runner knows between its holds, and what a turn adds to the log.
use Rattle.std.specs.Prelude.{◌≡◌, ◌≢◌, ◌<◌, ◌≤◌, ◌+◌, ◌%◌, ◌++◌, ℕ, true, false, List, [], ◌∷◌, None, Option, MatchOption, All, length}
use Rattle.flat_model.specs.declared.events.Event.{Event}
use Rattle.flat_model.specs.declared.journals.Item.{Item}
use Rattle.flat_model.specs.declared.journals.Item.TheVariants as items
use Rattle.flat_model.specs.declared.limits.TheConstants.{BLOCK_WORDS}
use Rattle.flat_model.specs.Log.{party, total_steps}
use Rattle.flat_model.specs.Worlds.{hart_of}
use Rattle.flat_model.specs.declared.plugins.Ask.TheVariants.{Stay}
use Rattle.baton_gate.specs.Logs.{GoesOn}
use Rattle.event_walk.specs.Matches.{classes_of}
use Rattle.watcher_api.specs.Acting.{acts_of, ask_of, walks_of, IsAbsent}
use Rattle.instr_lists.specs.Delivery.{acts_with, no_asks, each_walks}
use Rattle.run_rules.specs.Legal.{is_there}
use Rattle.run_order.specs.InOrder.{Task, task_run}
use Rattle.host_state.specs.Taking.{IsGotBy}
use Rattle.instr_lists.specs.declared.kept_lists.KeptList.{KeptList}
use Rattle.host_state.specs.Moving.{IsPrivateTurn}
use Rattle.hart_runner.specs.declared.going_ahead.Ahead.{Ahead}
use Rattle.hart_runner.specs.declared.holding.Hold.{Hold}
use Rattle.hart_runner.specs.declared.holding.Hold.TheVariants as holds
use Rattle.hart_runner.specs.declared.tapes.Piece.{Piece}
use Rattle.hart_runner.specs.Lists.{AreLists}
use Rattle.hart_runner.specs.Stretches.{LieAt, IsPiece, events_of}
use Rattle.hart_runner.specs.declared.runners.Turned.{Turned}
use Rattle.hart_runner.specs.declared.runners.Turned.TheVariants.{Went, Left, Waited}
use Rattle.hart_runner.specs.declared.seats.Seat.{Seat}
use Rattle.hart_runner.specs.Parts.{HasLeftThen}
use Rattle.hart_runner.specs.Seats.{IsSeated, HasWritten, Own}

-- the last item of a log is that hart h left
pub record HasLeftLast (h : ℕ) (now : List Item) : Type 0 where
  pub before : List Item
  pub last : now ≡ items.Left h ∷ before

-- what hart h's pass has seen became this: others added to the log, and then the hart, with at most a block's steps
pub record HasGone (h : ℕ) (seen now : List Item) (What : List Item → Type 0) : Type 0 where
  pub taken : List Item
  pub ahead : GoesOn (λ i. party i ≢ h) seen taken
  pub own : Own h taken now
  pub few : total_steps now ≤ total_steps taken + BLOCK_WORDS
  pub what : What taken

-- and what the turn is called by that: an entry of the journal was added, and the hart is still there; or its last item is that it left; or
-- it took sets and did nothing else
abbrev pub IsTurned : Turned → Task → ℕ → List Item → List Item → Type 0
IsTurned Went t h now taken = (is_there (task_run t) h now ≡ true) × HasWritten taken now
IsTurned Left t h now taken = HasLeftThen h taken now
IsTurned Waited t h now taken = (is_there (task_run t) h now ≡ true) × GoesOn (IsGotBy h) taken now

module _ {W : Type 0} where
  -- between holds: the seat of a task's hart, whose pass has seen this
  pub record Sits (t : Task) (h : ℕ) (seen : List Item) (seat : Seat W) : Type 0 where
    pub number : seat.no ≡ h
    pub seated : IsSeated t seat.no seen seat.hart seat.attached seat.specs seat.asks.first
    pub image : seat.image.value ≡ t.machine.image
    pub limit : seat.limit ≡ t.machine.limit
    pub kept : seat.raw.kept ≡ true

  -- the lists that a cache keeps are of the seat's sets
  abbrev pub HasLists : List KeptList → Seat W → Type 0
  HasLists kept seat = AreLists seat.image.value seat.generation seat.specs kept

  -- its hart runs, and has gone ahead in its block
  pub record IsAhead (seat : Seat W) (ahead : Ahead) : Type 0 where
    pub awake : seat.hart.parked ≡ false
    pub running : seat.hart.ending ≡ None
    pub ran : IsPrivateTurn seat.image.value seat.limit seat.no ahead.ran seat.hart ahead.hart seat.raw.events

  -- what delivery needs of a Turn from pc on
  pub record MayHear (pc : ℕ) (pieces : List Piece) (lists : List KeptList) (seat : Seat W) : Type 0 where
    pub aligned : pc % 4 ≡ 0
    pub kept : seat.raw.kept ≡ true
    pub lies : LieAt seat.image.value pc seat.raw.events
    pub each : All (IsPiece seat.image.value) pieces
    pub cached : HasLists lists seat
    pub acts : acts_of seat.attached ≡ acts_with seat.specs

  -- its boxes have heard the events of the first block and those of the pieces, in this order, and it notes what they asked for
  pub record HasHeard (pieces : List Piece) (old new : Seat W) : Type 0 where
    pub acts : acts_of new.attached ≡ acts_of old.attached
    pub walks : (told : List Event) → (0 < length old.attached → told ≡ old.raw.events ++ events_of pieces)
        → walks_of new.asks.first new.attached
        ≡ each_walks (classes_of old.image.value) old.specs told (walks_of no_asks old.attached)
    pub others : (p : ℕ) → 1 ≤ p → IsAbsent p old.attached → ask_of p new.asks.first ≡ Stay
    pub rest : new ≡ record old { attached = new.attached; asks = new.asks }

  -- the runner has no seat exactly once its hart has left
  abbrev pub IsPlaced : Turned → Option (Seat W) → (Seat W → Type 0) → Type 0
  IsPlaced Went place P = MatchOption place ⊥ P
  IsPlaced Left place P = place ≡ None
  IsPlaced Waited place P = MatchOption place ⊥ P

  -- what a turn makes of the log that was seen and of the seat; only a hart that was parked waits
  pub record IsDone (turned : Turned) (t : Task) (h : ℕ) (seen now : List Item) (place : Option (Seat W)) : Type 0 where
    pub gone : HasGone h seen now (IsTurned turned t h now)
    pub waits : turned ≡ Waited → (hart_of t.machine t.mode seen h).parked ≡ true
    pub placed : IsPlaced turned place (Sits t h now)

-- a hold by what it came to
abbrev pub turned_of : Hold → Turned
turned_of holds.Turned = Went
turned_of holds.GaveBack = Went
turned_of holds.Waits = Waited
turned_of holds.Leaves = Left
