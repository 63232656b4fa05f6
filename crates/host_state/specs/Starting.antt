-- The state before the first hold: the installs of the plan are placed, one after the other.
use Rattle.std.specs.Prelude.{◌≡◌, ℕ, false, map, take}
use Rattle.plug_registry.specs.Installs.{start_order}
use Rattle.flat_model.specs.Log.{log}
use Rattle.run_order.specs.InOrder.{Task}
use Rattle.host_state.specs.State.{StateValue}

-- the first n installs of the plan stand, and nothing else
pub record HasStarted (t : Task) (n : ℕ) (s : StateValue) : Type 0 where
  pub task : s.task ≡ t
  pub past : s.past ≡ log (map start_order (take n t.plan.installs))
  pub recording : s.short ≡ false
