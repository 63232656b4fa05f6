-- What a call does to a box, of any sort, that stands for lists of events.
use Rattle.std.specs.Prelude.{◌≡◌, ◌+◌, List, [], ◌∷◌, ◌++◌, length, Option, Some}
use Rattle.flat_model.specs.declared.events.Event.{Event}
use Rattle.flat_model.specs.declared.plugins.Ask.{Ask}
use Rattle.flat_model.specs.declared.plugins.Kind.{Kind}
use Rattle.flat_model.specs.Kinds.{ask_at}

-- the box has heard the event: it stands for each list that it stood for with the event at its end, and it
-- has answered what its kind asks at the call of that number
pub record IsHeard {B : Type 0} (kind_of : B → Option Kind) (stands : B → List Event → Type 0)
    (old new : B) (e : Event) (ask : Ask) : Type 0 where
  pub heard : (events : List Event) → stands old events → stands new (events ++ e ∷ [])
  pub asks : (kind : Kind) (events : List Event)
      → kind_of old ≡ Some kind → stands old events → ask ≡ ask_at kind (length events + 1)

-- the box has heard nothing: it stands for each list that it stood for
pub record IsKept {B : Type 0} (stands : B → List Event → Type 0) (old new : B) : Type 0 where
  pub kept : (events : List Event) → stands old events → stands new events
