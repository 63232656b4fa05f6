-- A parked hart while others hold the state: it stays as it is until another hart's step gives it its start.
use Rattle.std.specs.Prelude.{◌≡◌, ◌<◌, ◌++◌, ℕ, true, List, Some, None}
use Rattle.flat_model.specs.declared.journals.Item.{Item}
use Rattle.flat_model.specs.World.{Start, started_hart}
use Rattle.flat_model.specs.Worlds.{world, hart_of}
use Rattle.run_rules.specs.Laws.{AreOfOthers}
use Rattle.run_order.specs.InOrder.{Task}

pub record MayWake (t : Task) (h : ℕ) (past now : List Item) : Type 0 where
  pub asleep : (world t.machine t.mode now).shared.starts h ≡ None
      → hart_of t.machine t.mode now h ≡ hart_of t.machine t.mode past h
  pub woken : (start : Start) → (world t.machine t.mode now).shared.starts h ≡ Some start
      → hart_of t.machine t.mode now h ≡ started_hart h t.machine.harts start

abbrev pub ParkedHartsWake : Type 0
ParkedHartsWake = (t : Task) (h : ℕ) (more past : List Item) → h < t.machine.harts → AreOfOthers h more
    → (hart_of t.machine t.mode past h).parked ≡ true → MayWake t h past (more ++ past)
