-- A walk over a journal: it makes the steps of the run that the journal tells, and gives their events one by one.
use Rattle.std.specs.Prelude.{◌≡◌, ℕ, ◌<◌, ◌≤◌, ◌*◌, false, List, [], ◌∷◌, ◌++◌, length, take, slice_get, Some}
use Rattle.std.specs.Prelude.{Result, Ok, Err}
use Rattle.flat_model.specs.declared.events.Event.{Event}
use Rattle.flat_model.specs.declared.journals.Entry.{Entry}
use Rattle.flat_model.specs.declared.journals.Entry.TheVariants.{Turn}
use Rattle.flat_model.specs.declared.journals.Item.{Item}
use Rattle.flat_model.specs.declared.journals.Mode.{Mode}
use Rattle.flat_model.specs.declared.refusals.NotThisRun.{NotThisRun}
use Rattle.flat_model.specs.declared.refusals.Refused.{Refused}
use Rattle.flat_model.specs.declared.refusals.Refused.TheVariants.{Because, NoMemory}
use Rattle.flat_model.specs.Image.{Program}
use Rattle.flat_model.specs.Log.{log, steps}
use Rattle.flat_model.specs.World.{Machine}
use Rattle.lock_step.specs.Runs.{can_step, IsRun}
use Rattle.lock_step.specs.Tellings.{all_told, of_hart}
use Rattle.lock_step.specs.declared.walks.Walked.{Walked}
use Rattle.lock_step.specs.declared.walks.Walked.TheVariants as walked

-- the run, the journal's entries, and the events that the walk has given so far
pub record WalkState : Type 0 where
  pub machine : Machine
  pub mode : Mode
  pub entries : List Entry
  pub given : List Event

-- a walk before the first step of a journal of a run on so many harts, for so many steps each
abbrev pub opening_walk : Program → ℕ → ℕ → Mode → List Entry → WalkState
opening_walk image harts limit mode entries = record {
  machine = record { image = image; harts = harts; limit = limit };
  mode = mode;
  entries = entries;
  given = [];
}

-- they are the first that the run tells: those of a beginning of the log, which is a run, up to some of its last events
pub record HasGiven (w : WalkState) : Type 0 where
  pub past : List Item
  pub more : List Item
  pub begins : log w.entries ≡ more ++ past
  pub runs : IsRun w.machine w.mode past
  pub left : List Event
  pub told : all_told w.machine w.mode past ≡ w.given ++ left

-- they are all: the log is a run, and tells them
pub record HasGivenAll (w : WalkState) : Type 0 where
  pub runs : IsRun w.machine w.mode (log w.entries)
  pub told : all_told w.machine w.mode (log w.entries) ≡ w.given

-- they are those of the first k steps of the Turn at this place and of what stands before it, which is a run; the Turn has a
-- further step, before which its hart isn't one of the run's or doesn't run
pub record IsStuckAt (w : WalkState) (place : ℕ) : Type 0 where
  pub hart : ℕ
  pub n : ℕ
  pub turn : slice_get w.entries place ≡ Some (Turn hart n)
  pub k : ℕ
  pub further : k < n
  pub runs : IsRun w.machine w.mode (steps hart k (log (take place w.entries)))
  pub breaks : can_step w.machine w.mode (steps hart k (log (take place w.entries))) hart ≡ false
  pub told : all_told w.machine w.mode (steps hart k (log (take place w.entries))) ≡ w.given

-- the walk has given one event more; no hart has told more than 6 a step
pub record HasGivenOne (old : WalkState) (e : Event) (new : WalkState) : Type 0 where
  pub one : new ≡ record old { given = old.given ++ e ∷ [] }
  pub given : HasGiven new
  pub few : (h : ℕ) → h < new.machine.harts → length (of_hart h new.given) ≤ 6 * new.machine.limit

-- what the next event of a walk is: one more, or none, where all are given; or the walk can't go on; and want of memory changes nothing
abbrev pub HasMoved : Result Walked (Refused NotThisRun) → WalkState → WalkState → Type 0
HasMoved (Ok (walked.Event e)) old new = HasGivenOne old e new
HasMoved (Ok walked.End) old new = (new ≡ old) × HasGivenAll new
HasMoved (Err (Because why)) old new = (new ≡ old) × IsStuckAt new why.place
HasMoved (Err NoMemory) old new = new ≡ old

-- what a walk to the end tells of the journal: that it is a run, or where it can't go on
abbrev pub IsWalkedThrough : WalkState → Result (Unit {0}) (Refused NotThisRun) → Type 0
IsWalkedThrough w (Ok done) = IsRun w.machine w.mode (log w.entries)
IsWalkedThrough w (Err (Because why)) = (given : List Event) × IsStuckAt (record w { given = given }) why.place
IsWalkedThrough w (Err NoMemory) = Unit {0}

-- a journal at which a walk can't go on is no run
abbrev pub StuckIsNoRun : Type 0
StuckIsNoRun = (w : WalkState) (place : ℕ) → IsStuckAt w place → IsRun w.machine w.mode (log w.entries) → ⊥
