-- What a Turn makes of a hart's berth.
use Rattle.std.specs.Prelude.{◌≡◌, ℕ, Bool, true, false, List, Option, None}
use Rattle.flat_model.specs.declared.journals.Entry.TheVariants as entries
use Rattle.flat_model.specs.Image.{Program}
use Rattle.flat_model.specs.Log.{journaled, steps}
use Rattle.flat_model.specs.declared.journals.Item.{Item}
use Rattle.block_finder.specs.Caches.{MayServe}
use Rattle.kept_order.specs.Taking.{AreGots}
use Rattle.run_rules.specs.Due.{turn_length, wanted}
use Rattle.run_rules.specs.Legal.{Legal}
use Rattle.run_order.specs.InOrder.{InOrder, task_run}
use Rattle.baton_gate.specs.Logs.{GoesOn}
use Rattle.host_state.specs.Scripting.{IsLineOf}
use Rattle.host_state.specs.Taking.{IsGotBy}
use Rattle.host_state.specs.State.{StateValue, stored_of}
use Rattle.run_replay.specs.declared.berths.Berth.{Berth}
use Rattle.run_replay.specs.declared.replays.Followed.{Followed}
use Rattle.run_replay.specs.declared.replays.Followed.TheVariants.{Went, Overdue, Breaks}
use Rattle.run_replay.specs.Following.{IsBerth, IsLast, IsBreaking}
use Rattle.run_replay.specs.Overdue.{IsOverdue}

module _ {W : Type 0} where
  -- a hart that hasn't left is to make a Turn
  pub record MayTurn (h : ℕ) (s : StateValue) (b : Berth W) (blocks : Option Program) : Type 0 where
    pub open_now : s.short ≡ false
    pub caught_up : wanted (task_run s.task) s.past ≡ None
    pub berth : IsBerth s.task h s.past b
    pub anew : turn_length h s.past ≡ 0
    pub serves : MayServe blocks s.task.machine.image

  -- it has taken what waited for it and made n steps more, and the lines that are due behind them stand
  pub record HasGone (h n : ℕ) (old new : StateValue) (b : Berth W) (blocks : Option Program) : Type 0 where
    pub task : new.task ≡ old.task
    pub open_now : new.short ≡ false
    pub berth : IsBerth new.task h new.past b
    pub serves : MayServe blocks new.task.machine.image
    pub between : List Item
    pub gots : GoesOn (IsGotBy h) old.past between
    pub gone : GoesOn (IsLineOf h) (steps h n between) new.past
    pub caught_up : wanted (task_run new.task) new.past ≡ None

  abbrev pub HasFollowedTurn : Followed → ℕ → ℕ → StateValue → StateValue → Berth W → Option Program → Type 0
  HasFollowedTurn Went h n old new b blocks = HasGone h n old new b blocks
  HasFollowedTurn Overdue h n old new b blocks = IsLast (entries.Turn h n) old new
  HasFollowedTurn Breaks h n old new b blocks = IsBreaking (entries.Turn h n) old

  -- its steps alone, behind what it took
  pub record HasStepped (h n : ℕ) (old new : StateValue) (b : Berth W) (blocks : Option Program) : Type 0 where
    pub task : new.task ≡ old.task
    pub open_now : new.short ≡ false
    pub berth : IsBerth new.task h new.past b
    pub serves : MayServe blocks new.task.machine.image
    pub gone : new.past ≡ steps h n old.past

  abbrev pub HasMade : Bool → ℕ → ℕ → StateValue → StateValue → Berth W → Option Program → Type 0
  HasMade true h n old new b blocks = HasStepped h n old new b blocks
  HasMade false h n old new b blocks = IsBreaking (entries.Turn h n) old

-- the lines that are due behind a Turn of hart h stand, and nothing is wanted any more
pub record CatchesUp (h : ℕ) (old new : StateValue) : Type 0 where
  pub task : new.task ≡ old.task
  pub open_now : new.short ≡ false
  pub lines : GoesOn (IsLineOf h) old.past new.past
  pub order : InOrder new.task (stored_of new)
  pub caught_up : wanted (task_run new.task) new.past ≡ None

-- or one of them can't stand in time any more
abbrev pub HasCaughtUp : Followed → ℕ → StateValue → StateValue → Type 0
HasCaughtUp Went h old new = CatchesUp h old new
HasCaughtUp Overdue h old new = (new ≡ old) × IsOverdue (task_run old.task) old.past
HasCaughtUp Breaks h old new = ⊥
