-- How far a walk has come in its journal.
use Rattle.std.specs.Prelude.{◌≡◌, ◌<◌, ◌≤◌, ℕ, List, [], ◌∷◌, ◌++◌, length, take, drop, slice_get, Option, Some, None}
use Rattle.flat_model.specs.declared.events.Event.{Event}
use Rattle.flat_model.specs.declared.journals.Entry.{Entry}
use Rattle.flat_model.specs.declared.journals.Entry.TheVariants.{Turn, Order, Back, Leave, Done}
use Rattle.flat_model.specs.declared.journals.Item.{Item}
use Rattle.flat_model.specs.declared.journals.Item.TheVariants.{Step, Ordered, GaveBack, Left, Told, Got, Took}
use Rattle.flat_model.specs.Log.{log, steps}
use Rattle.lock_step.specs.Kept.{LoneState}
use Rattle.lock_step.specs.Runs.{IsRun}
use Rattle.lock_step.specs.Tellings.{all_told}

-- the steps of a log, without its other items
abbrev pub steps_alone : List Item → List Item
steps_alone [] = []
steps_alone (Step h ∷ past) = Step h ∷ steps_alone past
steps_alone (Ordered origin order ∷ past) = steps_alone past
steps_alone (GaveBack h plugin ∷ past) = steps_alone past
steps_alone (Left h ∷ past) = steps_alone past
steps_alone (Told party plugin ∷ past) = steps_alone past
steps_alone (Got h plugin ∷ past) = steps_alone past
steps_alone (Took party plugin ∷ past) = steps_alone past

-- the log with so many steps of an entry, where it is a Turn
abbrev pub with_made : Option Entry → ℕ → List Item → List Item
with_made None made past = past
with_made (Some (Turn h n)) made past = steps h made past
with_made (Some (Order origin order)) made past = past
with_made (Some (Back h plugin)) made past = past
with_made (Some (Leave h)) made past = past
with_made (Some (Done party plugin)) made past = past

-- the log of the entries before a place, and of so many steps of the Turn there
abbrev pub so_far : List Entry → ℕ → ℕ → List Item
so_far es place made = with_made (slice_get es place) made (log (take place es))

-- the entry has so many steps at least, where it is a Turn
abbrev pub HasMade : Option Entry → ℕ → Type 0
HasMade None made = Unit {0}
HasMade (Some (Turn h n)) made = made ≤ n
HasMade (Some (Order origin order)) made = Unit {0}
HasMade (Some (Back h plugin)) made = Unit {0}
HasMade (Some (Leave h)) made = Unit {0}
HasMade (Some (Done party plugin)) made = Unit {0}

-- the entry has no further step behind so many
abbrev pub IsMade : Entry → ℕ → Type 0
IsMade (Turn h n) made = n ≤ made
IsMade (Order origin order) made = Unit {0}
IsMade (Back h plugin) made = Unit {0}
IsMade (Leave h) made = Unit {0}
IsMade (Done party plugin) made = Unit {0}

pub record IsPlace (es : List Entry) (place made : ℕ) : Type 0 where
  pub within : place ≤ length es
  pub steps : HasMade (slice_get es place) made

-- the entry at the place is a Turn of hart h with a further step behind so many
abbrev pub HasStep : List Entry → ℕ → ℕ → ℕ → Type 0
HasStep es place made h = (n : ℕ) × (slice_get es place ≡ Some (Turn h n)) × (made < n)

-- the steps so far are made and are a run, and their events were given but for those behind the first of the last step
pub record IsWalking (run : LoneState) (es : List Entry) (place made passed : ℕ) (given : List Event) : Type 0 where
  pub at : IsPlace es place made
  pub past : run.past ≡ steps_alone (so_far es place made)
  pub runs : IsRun run.machine run.mode run.past
  pub some : passed ≤ length run.events
  pub told : all_told run.machine run.mode run.past ≡ given ++ drop passed run.events
