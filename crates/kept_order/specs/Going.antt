-- What a runner knows while others hold the state, and while its hart goes through a Turn.
use Rattle.std.specs.Prelude.{◌≡◌, ◌<◌, ◌≤◌, ◌+◌, ◌++◌, ◌∷◌, ℕ, true, false, List, None}
use Rattle.flat_model.specs.declared.journals.Item.{Item}
use Rattle.flat_model.specs.declared.journals.Item.TheVariants.{Step}
use Rattle.flat_model.specs.declared.limits.TheConstants.{BLOCK_WORDS}
use Rattle.flat_model.specs.Log.{steps}
use Rattle.flat_model.specs.Registry.{plugin_of, has_left}
use Rattle.flat_model.specs.Step.{steps_of}
use Rattle.flat_model.specs.Worlds.{world, hart_of, next_step}
use Rattle.private_runs.specs.Runs.{AreOfRun}
use Rattle.run_rules.specs.Guest.{Run, plugins}
use Rattle.run_rules.specs.Heard.{is_live, waiting}
use Rattle.run_rules.specs.Legal.{Legal, is_there, runs, owes_any, asks_nothing, passes_nothing_by}
use Rattle.run_rules.specs.Places.{IsStateLog, is_with_hart}
use Rattle.run_rules.specs.Laws.{AreOfOthers, MayTurn}
use Rattle.run_order.specs.Sets.{sets_for}
use Rattle.run_order.specs.InOrder.{Task, task_run}
use Rattle.kept_order.specs.Hearing.{specs_for}

-- While others hold the state.

-- what a runner of hart h has stays as it is while others add to the log; an ask can only have lost its wait
pub record StaysSeated (t : Task) (h : ℕ) (past now : List Item) : Type 0 where
  pub there : is_there (task_run t) h now ≡ is_there (task_run t) h past
  pub sets : sets_for is_with_hart (task_run t) h now ≡ sets_for is_with_hart (task_run t) h past
  pub specs : specs_for (task_run t) h now ≡ specs_for (task_run t) h past
  pub asks : (plugin : ℕ) → 1 ≤ plugin → is_live (plugin_of (plugins (task_run t) now) plugin).state ≡ true
      → waiting (task_run t) plugin h now ≡ waiting (task_run t) plugin h past
  pub hart : (hart_of t.machine t.mode past h).parked ≡ false → hart_of t.machine t.mode now h ≡ hart_of t.machine t.mode past h

abbrev pub OthersLeaveRunnersAlone : Type 0
OthersLeaveRunnersAlone = (t : Task) (h : ℕ) (more past : List Item) → h < t.machine.harts → AreOfOthers h more
    → Legal (task_run t) (more ++ past) → IsStateLog (task_run t) (more ++ past) → StaysSeated t h past (more ++ past)

-- a hart that has left has left for good
abbrev pub LeftIsLeft : Type 0
LeftIsLeft = (run : Run) (h : ℕ) (more past : List Item)
    → has_left (plugins run past) h ≡ true → has_left (plugins run (more ++ past)) h ≡ true

-- While the hart goes through a Turn of up to 512 steps.

-- before its first step
abbrev pub TurnsBegin : Type 0
TurnsBegin = (run : Run) (h : ℕ) (past : List Item) → Legal run past → is_there run h past ≡ true → owes_any run h past ≡ false
    → asks_nothing run h past ≡ true → passes_nothing_by run past ≡ true → MayTurn run h 0 past

-- at one step more
pub record GoesOneOn (run : Run) (h k : ℕ) (past : List Item) : Type 0 where
  pub may : MayTurn run h (k + 1) past
  pub legal : Legal run (Step h ∷ steps h k past)

abbrev pub TurnsGoOn : Type 0
TurnsGoOn = (run : Run) (h k : ℕ) (past : List Item) → k < BLOCK_WORDS → MayTurn run h k past
    → runs run h (steps h k past) ≡ true → GoesOneOn run h k past

-- at n steps that the hart makes by itself
abbrev pub PrivateTurnsGoOn : Type 0
PrivateTurnsGoOn = (t : Task) (h n : ℕ) (past : List Item) → n ≤ BLOCK_WORDS → MayTurn (task_run t) h 0 past
    → (hart_of t.machine t.mode past h).parked ≡ false → (world t.machine t.mode past).shared.group ≡ None
    → AreOfRun t.machine.image t.machine.limit h n (hart_of t.machine t.mode past h)
    → MayTurn (task_run t) h n past

-- the hart runs where it isn't parked and hasn't ended, while the group hasn't
abbrev pub HartsRun : Type 0
HartsRun = (t : Task) (h : ℕ) (past : List Item) → (hart_of t.machine t.mode past h).parked ≡ false
    → (hart_of t.machine t.mode past h).ending ≡ None → (world t.machine t.mode past).shared.group ≡ None
    → runs (task_run t) h past ≡ true

-- a step more in a row, after the log in which the row began
pub record IsNextOfRow (t : Task) (h k : ℕ) (past : List Item) : Type 0 where
  pub events : (steps_of t.machine h (k + 1) (hart_of t.machine t.mode past h) (world t.machine t.mode past).shared).events
      ≡ (steps_of t.machine h k (hart_of t.machine t.mode past h) (world t.machine t.mode past).shared).events
      ++ (next_step t.machine t.mode (steps h k past) h).events
  pub items : steps h (k + 1) past ≡ Step h ∷ steps h k past

abbrev pub RowsGoOn : Type 0
RowsGoOn = (t : Task) (h k : ℕ) (past : List Item) → IsNextOfRow t h k past
