-- A hart in the middle of its Turn.
use Rattle.std.specs.Prelude.{◌≡◌, ℕ, true, List}
use Rattle.flat_model.specs.declared.journals.Item.{Item}
use Rattle.flat_model.specs.Log.{steps}
use Rattle.run_rules.specs.Guest.{Run}
use Rattle.run_rules.specs.Laws.{MayTurn}
use Rattle.run_rules.specs.Places.{takes_all}

-- hart h has made the log's last k steps since it could begin a Turn
pub record IsMidTurn (run : Run) (h k : ℕ) (past : List Item) : Type 0 where
  pub before : List Item
  pub made : past ≡ steps h k before
  pub may : MayTurn run h 0 before
  pub taken : takes_all run h before ≡ true
