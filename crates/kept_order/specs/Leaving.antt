-- What becomes of the stored state where a hart leaves.
use Rattle.std.specs.Prelude.{◌≡◌, ℕ, ◌∷◌, Some, slice_set}
use Rattle.flat_model.specs.declared.journals.Item.TheVariants.{Left}
use Rattle.flat_model.specs.Log.{log}
use Rattle.flat_model.specs.Registry.{after_leave}
use Rattle.flat_model.specs.Worlds.{hart_of}
use Rattle.run_rules.specs.Legal.{Legal}
use Rattle.run_rules.specs.Places.{is_with_hart}
use Rattle.run_order.specs.Sets.{sets_for}
use Rattle.run_order.specs.Laws.{park_all}
use Rattle.run_order.specs.InOrder.{Task, Stored, InOrder, task_run}

-- the hart is kept as its steps left it, and its sets are parked
pub record HasLeft (t : Task) (h : ℕ) (old new : Stored) : Type 0 where
  pub past : new.past ≡ Left h ∷ old.past
  pub journal : log new.entries ≡ Left h ∷ log old.entries
  pub shared : new.shared ≡ old.shared
  pub plugins : new.plugins ≡ after_leave h old.plugins
  pub waiting : new.waiting ≡ old.waiting
  pub parked : new.parked ≡ park_all h (sets_for is_with_hart (task_run t) h old.past) old.parked
  pub harts : new.harts ≡ slice_set old.harts h (Some (hart_of t.machine t.mode old.past h))
  pub closers : new.closers ≡ old.closers

abbrev pub LeavesKeepOrder : Type 0
LeavesKeepOrder = (t : Task) (h : ℕ) (old new : Stored) → InOrder t old
    → Legal (task_run t) (Left h ∷ old.past) → HasLeft t h old new → InOrder t new
