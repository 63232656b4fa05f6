-- What becomes of a hart's seat where it takes sets.
use Rattle.std.specs.Prelude.{◌≡◌, ◌<◌, ◌++◌, ℕ, List}
use Rattle.flat_model.specs.declared.journals.Item.{Item}
use Rattle.run_rules.specs.Legal.{Legal}
use Rattle.run_rules.specs.Places.{IsStateLog, is_with_hart}
use Rattle.run_order.specs.Sets.{sets_for}
use Rattle.run_order.specs.InOrder.{Task, task_run}
use Rattle.kept_order.specs.Hearing.{specs_for}
use Rattle.kept_order.specs.Taking.{AreGots}
use Rattle.replay_order.specs.Seats.{Seating, Sits}

-- the sets are taken, and the rest is as it was
pub record HasTaken (t : Task) (h : ℕ) (now : List Item) (old new : Seating) : Type 0 where
  pub hart : new.hart ≡ old.hart
  pub asks : new.asks ≡ old.asks
  pub since : new.since ≡ old.since
  pub sets : new.sets ≡ sets_for is_with_hart (task_run t) h now
  pub filters : new.filters ≡ specs_for (task_run t) h now

abbrev pub TakesKeepSeats : Type 0
TakesKeepSeats = (t : Task) (h : ℕ) (more past : List Item) (old new : Seating) → h < t.machine.harts → AreGots more
    → Legal (task_run t) (more ++ past) → IsStateLog (task_run t) (more ++ past)
    → Sits t h past old → HasTaken t h (more ++ past) old new → Sits t h (more ++ past) new
