-- How a replay begins: the harts before any hold, and the plan's start orders.
use Rattle.std.specs.Prelude.{◌≡◌, ◌≢◌, ◌<◌, ◌≤◌, ℕ, List, [], Some, length, map, take, slice_get}
use Rattle.flat_model.specs.declared.plugins.SetSpec.{SetSpec}
use Rattle.flat_model.specs.declared.journals.Entry.{Entry}
use Rattle.flat_model.specs.declared.journals.Item.{Item}
use Rattle.flat_model.specs.Log.{log, IsJoined}
use Rattle.flat_model.specs.World.{opening_hart}
use Rattle.instr_lists.specs.Delivery.{no_asks}
use Rattle.plug_registry.specs.Installs.{start_order}
use Rattle.run_rules.specs.Guest.{Run}
use Rattle.run_rules.specs.Legal.{Legal, IsBrokenAt}
use Rattle.run_order.specs.InOrder.{Task}
use Rattle.replay_order.specs.Seats.{Seating, Sits}

-- hart h before any hold
pub record IsFirst (t : Task) (h : ℕ) (s : Seating) : Type 0 where
  pub hart : s.hart ≡ opening_hart t.machine.image t.mode h t.machine.harts
  pub sets : s.sets ≡ []
  pub filters : s.filters ≡ []
  pub asks : s.asks ≡ no_asks

abbrev pub FirstSeatsSit : Type 0
FirstSeatsSit = (t : Task) (h : ℕ) (past : List Item) (s : Seating) → 1 ≤ t.machine.limit → h < t.machine.harts
    → past ≡ log (map start_order t.plan.installs) → IsFirst t h s → Sits t h past s

-- the entries begin with the first k start orders of the plan, and go on with no other
pub record IsOther (es : List Entry) (installs : List SetSpec) (k : ℕ) : Type 0 where
  pub within : k < length installs
  pub begins : take k es ≡ map start_order (take k installs)
  pub other : (e : Entry) (spec : SetSpec) → slice_get es k ≡ Some e → slice_get installs k ≡ Some spec → e ≢ start_order spec

-- so they break a rule there
abbrev pub OtherOpeningsBreak : Type 0
OtherOpeningsBreak = (run : Run) (es : List Entry) (k : ℕ) → IsJoined es → Legal run (log (map start_order run.plan.installs))
    → IsOther es run.plan.installs k → IsBrokenAt run es k
