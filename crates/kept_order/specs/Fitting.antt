-- A Turn that goes on fits where a journal keeps the number of its steps.
use Rattle.std.specs.Prelude.{◌≤◌, ◌<◌, ◌^◌, ℕ, IfSome}
use Rattle.flat_model.specs.declared.journals.Entry.TheVariants.{Turn}
use Rattle.flat_model.specs.Log.{steps}
use Rattle.run_journal.specs.Journal.{joined_turn, IsSmall}
use Rattle.run_rules.specs.Legal.{Legal}
use Rattle.run_order.specs.InOrder.{Task, Stored, InOrder, task_run}

abbrev pub TurnsFit : Type 0
TurnsFit = (t : Task) (h n : ℕ) (s : Stored) → 1 ≤ t.machine.limit → t.machine.limit < 2 ^ 32 → InOrder t s
    → Legal (task_run t) (steps h n s.past) → IfSome (joined_turn s.entries (Turn h n)) IsSmall
