-- What the parts of a comparison tell.
use Rattle.std.specs.Prelude.{◌≡◌, ◌≢◌, ◌⊎◌, ◌≤◌, ◌<◌, ◌-◌, ◌*◌, ℕ, List, [], ◌∷◌, ◌++◌, length, Option, Some, None}
use Rattle.flat_model.specs.declared.events.Event.{Event}
use Rattle.flat_model.specs.Log.{log}
use Rattle.lock_step.specs.Tellings.{all_told, of_hart}
use Rattle.lock_step.specs.Walks.{WalkState, HasGivenAll, HasGivenOne}
use Rattle.lock_step.specs.declared.verdicts.Verdict.{Verdict}
use Rattle.lock_step.specs.declared.verdicts.Verdict.TheVariants.{Same, Differs, Ends}

-- the walk has given one event more, or it has given them all
abbrev pub HasCome : Option Event → WalkState → WalkState → Type 0
HasCome None old new = (new ≡ old) × HasGivenAll new
HasCome (Some e) old new = HasGivenOne old e new

-- the event, if any, as a list
abbrev pub one_of : Option Event → List Event
one_of None = []
one_of (Some e) = e ∷ []

-- what the hart tells in all of the walk's journal
abbrev pub told_by : ℕ → WalkState → List Event
told_by h w = of_hart h (all_told w.machine w.mode (log w.entries))

-- an event of hart h was given, which is the last so far; the walk has come nearer to its end
pub record IsNext (h : ℕ) (old new : WalkState) : Type 0 where
  pub left : List Event
  pub told : told_by h new ≡ of_hart h new.given ++ left
  pub further : length old.given < length new.given
  pub within : length new.given ≤ length (all_told new.machine new.mode (log new.entries))
  pub few : length (of_hart h new.given) ≤ 6 * new.machine.limit

-- or there is no further one
abbrev pub IsNextOf : ℕ → Option Event → WalkState → WalkState → Type 0
IsNextOf h None old new = told_by h new ≡ of_hart h new.given
IsNextOf h (Some e) old new = IsNext h old new

-- the walk has gone on to the next event of hart h, or to its end
pub record HasFound (h : ℕ) (next : Option Event) (old new : WalkState) : Type 0 where
  pub kept : new ≡ record old { given = new.given }
  pub given : of_hart h new.given ≡ of_hart h old.given ++ one_of next
  pub is : IsNextOf h next old new

-- what the next events of two lists tell at an index, before which the lists are the same: nothing, where they are the same
abbrev pub IsJudged : Option Verdict → Option Event → Option Event → ℕ → Type 0
IsJudged None first second index = (e : Event) × (first ≡ Some e) × (second ≡ Some e)
IsJudged (Some (Same events)) first second index = (first ≡ None) × (second ≡ None) × (events ≡ index - 1)
IsJudged (Some (Differs place first_step second_step)) first second index =
    (a : Event) × (b : Event) × (first ≡ Some a) × (second ≡ Some b) × (a ≢ b) × (place ≡ index) × (a.step ≡ first_step)
    × (b.step ≡ second_step)
IsJudged (Some (Ends which place)) first second index =
    (e : Event) × (((which ≡ 1) × (first ≡ None) × (second ≡ Some e)) ⊎ ((which ≡ 2) × (first ≡ Some e) × (second ≡ None)))
    × (place ≡ index)
