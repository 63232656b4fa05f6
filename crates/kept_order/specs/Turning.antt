-- What steps of a hart make of the stored state.
use Rattle.std.specs.Prelude.{◌≡◌, ℕ, true}
use Rattle.flat_model.specs.Log.{log, steps}
use Rattle.flat_model.specs.Worlds.{world}
use Rattle.run_rules.specs.Legal.{Legal}
use Rattle.run_rules.specs.Places.{takes_all}
use Rattle.run_order.specs.InOrder.{Task, Stored, InOrder, task_run}

-- n steps of hart h stand in log and journal, and what the harts share is what they leave of it
pub record Turned (t : Task) (h n : ℕ) (old new : Stored) : Type 0 where
  pub past : new.past ≡ steps h n old.past
  pub journal : log new.entries ≡ steps h n (log old.entries)
  pub shared : new.shared ≡ (world t.machine t.mode (steps h n old.past)).shared
  pub plugins : new.plugins ≡ old.plugins
  pub waiting : new.waiting ≡ old.waiting
  pub parked : new.parked ≡ old.parked
  pub harts : new.harts ≡ old.harts
  pub closers : new.closers ≡ old.closers

abbrev pub TurnsKeepOrder : Type 0
TurnsKeepOrder = (t : Task) (h n : ℕ) (old new : Stored) → InOrder t old → Legal (task_run t) (steps h n old.past)
    → takes_all (task_run t) h old.past ≡ true → Turned t h n old new → InOrder t new
