-- Where two lists of events part.
use Rattle.std.specs.Prelude.{◌≡◌, ◌⊎◌, ◌≢◌, ℕ, ◌+◌, List, ◌∷◌, ◌++◌, length}
use Rattle.flat_model.specs.declared.events.Event.{Event}
use Rattle.lock_step.specs.declared.verdicts.Verdict.{Verdict}
use Rattle.lock_step.specs.declared.verdicts.Verdict.TheVariants.{Same, Differs, Ends}

-- the lists have as much in common as stands before the index, from 1, where they differ in these events
pub record PartAt (first second : List Event) (index : ℕ) (a b : Event) : Type 0 where
  pub common : List Event
  pub first_left : List Event
  pub second_left : List Event
  pub first_is : first ≡ common ++ a ∷ first_left
  pub second_is : second ≡ common ++ b ∷ second_left
  pub index_is : index ≡ length common + 1
  pub differ : a ≢ b

-- the first list ends before the index, from 1, where the second has an event; up to there they are the same
pub record EndsAt (first second : List Event) (index : ℕ) : Type 0 where
  pub next : Event
  pub left : List Event
  pub second_is : second ≡ first ++ next ∷ left
  pub index_is : index ≡ length first + 1

-- they are the same, or differ first at an index, or one of them has ended there
abbrev pub IsVerdict : List Event → List Event → Verdict → Type 0
IsVerdict first second (Same events) = (first ≡ second) × (length first ≡ events)
IsVerdict first second (Differs index first_step second_step) =
    (a : Event) × (b : Event) × PartAt first second index a b × (a.step ≡ first_step) × (b.step ≡ second_step)
IsVerdict first second (Ends which index) =
    ((which ≡ 1) × EndsAt first second index) ⊎ ((which ≡ 2) × EndsAt second first index)
