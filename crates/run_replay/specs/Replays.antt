-- What a replay answers.
use Rattle.std.specs.Prelude.{◌≡◌, ℕ, false, List}
use Rattle.flat_model.specs.declared.journals.Entry.{Entry}
use Rattle.flat_model.specs.declared.refusals.NotThisRun.{NotThisRun}
use Rattle.flat_model.specs.declared.refusals.Refused.{Refused}
use Rattle.flat_model.specs.declared.refusals.Refused.TheVariants.{Because, NoMemory}
use Rattle.run_rules.specs.Guest.{Run}
use Rattle.run_rules.specs.Legal.{Whole, IsBrokenAt}
use Rattle.run_order.specs.InOrder.{Task, task_run}
use Rattle.host_state.specs.State.{StateValue}

-- the state of the run that a whole journal tells
pub record IsReplayOf (t : Task) (es : List Entry) (s : StateValue) : Type 0 where
  pub task : s.task ≡ t
  pub entries : s.journal.entries ≡ es
  pub whole : Whole (task_run t) s.past
  pub open_now : s.short ≡ false

-- why none is replayed: the journal isn't whole, and this is its place
abbrev pub IsRefusedAs : Run → List Entry → Refused NotThisRun → Type 0
IsRefusedAs run es (Because why) = IsBrokenAt run es why.place
IsRefusedAs run es NoMemory = Unit {0}
