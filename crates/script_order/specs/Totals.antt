-- What a journal with its Turns joined tells of its log: the number of steps, and how long the Turn is in which the log ends.
use Rattle.std.specs.Prelude.{◌≡◌, ◌<◌, ◌-◌, ℕ, List, length, slice_get, Option, Some, None}
use Rattle.flat_model.specs.declared.journals.Entry.{Entry}
use Rattle.flat_model.specs.declared.journals.Entry.TheVariants.{Turn, Order, Back, Leave, Done}
use Rattle.flat_model.specs.declared.journals.Item.{Item}
use Rattle.flat_model.specs.Log.{log, journaled, total_steps, IsJoined}
use Rattle.run_rules.specs.Due.{turn_length}

-- the steps of an entry, where it is a Turn
abbrev pub turn_steps : Option Entry → ℕ
turn_steps None = 0
turn_steps (Some (Turn hart n)) = n
turn_steps (Some (Order origin order)) = 0
turn_steps (Some (Back hart plugin)) = 0
turn_steps (Some (Leave hart)) = 0
turn_steps (Some (Done party plugin)) = 0

abbrev pub last_steps : List Entry → ℕ
last_steps es = turn_steps (slice_get es (length es - 1))

pub record IsToldBy (es : List Entry) (past : List Item) : Type 0 where
  pub total : total_steps (log es) ≡ total_steps past
  pub turn : (h : ℕ) → 0 < turn_length h past → last_steps es ≡ turn_length h past

abbrev pub JournalsTellTotals : Type 0
JournalsTellTotals = (es : List Entry) (past : List Item) → IsJoined es → log es ≡ journaled past → IsToldBy es past
