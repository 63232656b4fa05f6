-- The lines of the plan's script that are placed behind a hart's Turn.
use Rattle.std.specs.Prelude.{◌≡◌, ◌<◌, ◌≤◌, ℕ, List, None}
use Rattle.flat_model.specs.declared.journals.Item.{Item}
use Rattle.flat_model.specs.declared.journals.Item.TheVariants.{Step, Ordered, GaveBack, Left, Told, Got, Took}
use Rattle.flat_model.specs.declared.journals.Origin.{Origin}
use Rattle.flat_model.specs.declared.journals.Origin.TheVariants.{Start, Script, Asked, Control}
use Rattle.flat_model.specs.declared.limits.TheConstants.{BLOCK_WORDS}
use Rattle.flat_model.specs.Log.{steps, total_steps}
use Rattle.baton_gate.specs.Logs.{GoesOn}
use Rattle.run_rules.specs.Guest.{Run}
use Rattle.run_rules.specs.Due.{wanted}
use Rattle.run_order.specs.InOrder.{Task, task_run}
use Rattle.script_order.specs.Judging.{IsJudging}
use Rattle.script_order.specs.Letting.{LetsBe}
use Rattle.host_state.specs.Ordering.{ChangesByOrder}
use Rattle.host_state.specs.State.{StateValue}

-- an order of the script, placed in a hold of this party
abbrev pub IsOfScript : ℕ → Origin → Type 0
IsOfScript h Start = ⊥
IsOfScript h (Script line party) = party ≡ h
IsOfScript h (Asked hart plugin) = ⊥
IsOfScript h (Control party) = ⊥

abbrev pub IsLineOf : ℕ → Item → Type 0
IsLineOf h (Step hart) = ⊥
IsLineOf h (Ordered origin order) = IsOfScript h origin
IsLineOf h (GaveBack hart plugin) = ⊥
IsLineOf h (Left hart) = ⊥
IsLineOf h (Told party plugin) = ⊥
IsLineOf h (Got hart plugin) = ⊥
IsLineOf h (Took party plugin) = ⊥

-- the log ends in steps of hart h, up to 512, that it made since the plan wanted nothing
pub record HasTurned (run : Run) (h : ℕ) (past : List Item) : Type 0 where
  pub before : List Item
  pub made : ℕ
  pub is : past ≡ steps h made before
  pub some : 0 < made
  pub most : made ≤ BLOCK_WORDS
  pub caught_up : wanted run before ≡ None

-- what was placed lets each hart be
abbrev pub LetsAllBe : Task → List Item → List Item → Type 0
LetsAllBe t past now = (h : ℕ) → h < t.machine.harts → LetsBe t h past now

-- lines were placed in a hold of this party, and nothing else: they change what orders may, and let each hart be
pub record PlacesLines (who : ℕ) (old new : StateValue) : Type 0 where
  pub placed : GoesOn (IsLineOf who) old.past new.past
  pub rest : ChangesByOrder old new
  pub lets_be : LetsAllBe old.task old.past new.past
  pub total : total_steps new.past ≡ total_steps old.past

-- and line c is judged next
pub record HasJudged (who c : ℕ) (old new : StateValue) : Type 0 where
  pub places : PlacesLines who old new
  pub judging : IsJudging (task_run new.task) who c new.past
