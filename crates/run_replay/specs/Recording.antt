-- What the state makes of an order or a Done that a journal has next.
use Rattle.std.specs.Prelude.{◌≡◌, ◌∷◌, ℕ, List}
use Rattle.flat_model.specs.declared.journals.Item.{Item}
use Rattle.flat_model.specs.declared.journals.Item.TheVariants.{Told, Took}
use Rattle.run_rules.specs.Legal.{Rule}
use Rattle.run_rules.specs.Places.{replaying}
use Rattle.run_order.specs.InOrder.{InOrder, task_run}
use Rattle.host_state.specs.State.{StateValue, stored_of}
use Rattle.run_replay.specs.declared.replays.Followed.{Followed}
use Rattle.run_replay.specs.declared.replays.Followed.TheVariants.{Went, Overdue, Breaks}

-- the state has this log then
pub record HasRecorded (log : List Item) (old new : StateValue) : Type 0 where
  pub task : new.task ≡ old.task
  pub open_now : new.short ≡ old.short
  pub past : new.past ≡ log
  pub order : InOrder new.task (stored_of new)

-- it has the item, or this may not stand there
abbrev pub IsJudged : Followed → Item → StateValue → StateValue → Type 0
IsJudged Went x old new = HasRecorded (x ∷ old.past) old new
IsJudged Overdue x old new = ⊥
IsJudged Breaks x old new = Rule (task_run old.task) x old.past → ⊥

-- it has the Done behind a take of the closing by the replay, or no Done may stand there
abbrev pub IsTold : Followed → ℕ → ℕ → StateValue → StateValue → Type 0
IsTold Went party plugin old new = HasRecorded (Told party plugin ∷ Took (replaying plugin) plugin ∷ old.past) old new
IsTold Overdue party plugin old new = ⊥
IsTold Breaks party plugin old new = Rule (task_run old.task) (Told party plugin) old.past → ⊥
