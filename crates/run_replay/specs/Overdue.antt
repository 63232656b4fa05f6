-- Lines of the script for which a Turn went on for too long.
use Rattle.std.specs.Prelude.{◌≡◌, ◌<◌, ℕ, false, List, Some, None}
use Rattle.flat_model.specs.declared.journals.Item.{Item}
use Rattle.flat_model.specs.declared.journals.Item.TheVariants.{Ordered}
use Rattle.flat_model.specs.declared.journals.Order.{Order}
use Rattle.flat_model.specs.declared.journals.Origin.TheVariants.{Script}
use Rattle.flat_model.specs.Log.{steps}
use Rattle.run_rules.specs.Guest.{Run}
use Rattle.run_rules.specs.Due.{turn_length, wanted, in_time}

-- the log ends in a Turn of n steps, which began where the plan wanted nothing
pub record IsTurn (run : Run) (h n : ℕ) (past : List Item) : Type 0 where
  pub before : List Item
  pub is : past ≡ steps h n before
  pub some : 0 < n
  pub anew : turn_length h before ≡ 0
  pub caught_up : wanted run before ≡ None

-- the plan wants a line that can't stand in time any more
pub record IsOverdue (run : Run) (past : List Item) : Type 0 where
  pub line : ℕ
  pub party : ℕ
  pub order : Order
  pub wanted : wanted run past ≡ Some (Ordered (Script line party) order)
  pub late : in_time run line past ≡ false
