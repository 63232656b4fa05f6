-- What all harts tell in a log.
use Rattle.std.specs.Prelude.{◌≡◌, ℕ, ◌==◌, List, [], ◌∷◌, ◌++◌, filter}
use Rattle.flat_model.specs.declared.events.Event.{Event}
use Rattle.flat_model.specs.declared.journals.Item.{Item}
use Rattle.flat_model.specs.declared.journals.Item.TheVariants.{Step, Ordered, GaveBack, Left, Told, Got, Took}
use Rattle.flat_model.specs.declared.journals.Mode.{Mode}
use Rattle.flat_model.specs.World.{Machine}
use Rattle.flat_model.specs.Worlds.{next_step, events, unplaced}

-- the events of all steps of a log, in the log's order and, within a step, in the step's order
unfoldable pub all_told : Machine → Mode → List Item → List Event
all_told m mode [] = []
all_told m mode (Step h ∷ past) = all_told m mode past ++ (next_step m mode past h).events
all_told m mode (Ordered origin order ∷ past) = all_told m mode past
all_told m mode (GaveBack h plugin ∷ past) = all_told m mode past
all_told m mode (Left h ∷ past) = all_told m mode past
all_told m mode (Told party plugin ∷ past) = all_told m mode past
all_told m mode (Got h plugin ∷ past) = all_told m mode past
all_told m mode (Took party plugin ∷ past) = all_told m mode past

-- those of hart h among them
abbrev pub of_hart : ℕ → List Event → List Event
of_hart h es = filter (λ e. e.hart == h) es

-- these are what the hart tells, without places
abbrev pub HartsTellTheirOwn : Type 0
HartsTellTheirOwn = (m : Machine) (mode : Mode) (h : ℕ) (past : List Item)
    → of_hart h (all_told m mode past) ≡ unplaced (events m mode h past)
