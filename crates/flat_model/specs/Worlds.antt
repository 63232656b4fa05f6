-- The world of a log, and the events of its harts. A log has its latest item first, and no item but a step changes a world.
use Rattle.std.specs.Prelude.{◌≡◌, ℕ, ◌==◌, false, if◌then◌else◌, List, [], ◌∷◌, ◌++◌, length, map}
use Rattle.flat_model.specs.declared.events.Event.{Event}
use Rattle.flat_model.specs.declared.journals.Mode.{Mode}
use Rattle.flat_model.specs.declared.journals.Item.{Item}
use Rattle.flat_model.specs.declared.journals.Item.TheVariants.{Step, Ordered, GaveBack, Left, Told, Got, Took}
use Rattle.flat_model.specs.World.{Machine, World, HartState, opening_world}
use Rattle.flat_model.specs.Step.{Stepped, step_of, step, steps_of}
use Rattle.flat_model.specs.Log.{steps}

-- the world after the steps of a log
unfoldable pub world : Machine → Mode → List Item → World
world m mode [] = opening_world m mode
world m mode (Step hart ∷ past) = step m (world m mode past) hart
world m mode (Ordered origin order ∷ past) = world m mode past
world m mode (GaveBack hart plugin ∷ past) = world m mode past
world m mode (Left hart ∷ past) = world m mode past
world m mode (Told party plugin ∷ past) = world m mode past
world m mode (Got hart plugin ∷ past) = world m mode past
world m mode (Took party plugin ∷ past) = world m mode past

-- hart h in the world of a log
abbrev pub hart_of : Machine → Mode → List Item → ℕ → HartState
hart_of m mode past h = (world m mode past).harts h

-- the step that hart h makes next, after a log
abbrev pub next_step : Machine → Mode → List Item → ℕ → Stepped
next_step m mode past h = step_of m h (hart_of m mode past h) (world m mode past).shared

-- an event, with the place in the log of the step that gave it: the number of items before it
pub record Placed : Type 0 where
  pub place : ℕ
  pub event : Event

abbrev pub placed : ℕ → Event → Placed
placed place event = record { place = place; event = event }

-- the events of hart h in a log, in order, with their places
unfoldable pub events : Machine → Mode → ℕ → List Item → List Placed
events m mode h [] = []
events m mode h (Step hart ∷ past) =
    events m mode h past ++ (if hart == h then map (placed (length past)) (next_step m mode past h).events else [])
events m mode h (Ordered origin order ∷ past) = events m mode h past
events m mode h (GaveBack hart plugin ∷ past) = events m mode h past
events m mode h (Left hart ∷ past) = events m mode h past
events m mode h (Told party plugin ∷ past) = events m mode h past
events m mode h (Got hart plugin ∷ past) = events m mode h past
events m mode h (Took party plugin ∷ past) = events m mode h past

-- the events without their places
abbrev pub unplaced : List Placed → List Event
unplaced es = map (λ e. e.event) es

-- The laws of a run of one hart.

-- what n steps of hart h after a log make of it and of what is shared, as its own steps say
pub record IsRunOf (m : Machine) (mode : Mode) (h n : ℕ) (past : List Item) (run : Stepped) : Type 0 where
  pub hart : hart_of m mode (steps h n past) h ≡ run.hart
  pub shared : (world m mode (steps h n past)).shared ≡ run.shared
  pub events : unplaced (events m mode h (steps h n past)) ≡ unplaced (events m mode h past) ++ run.events

-- n steps of one hart, after any log, are its steps in a row from where that log left it
abbrev pub RunsAlone : Type 0
RunsAlone =
    (m : Machine) (mode : Mode) (h n : ℕ) (past : List Item)
    → IsRunOf m mode h n past (steps_of m h n (hart_of m mode past h) (world m mode past).shared)

-- a step of hart h tells its events behind those before
abbrev pub TellsItsSteps : Type 0
TellsItsSteps =
    (m : Machine) (mode : Mode) (h : ℕ) (past : List Item)
    → unplaced (events m mode h (Step h ∷ past)) ≡ unplaced (events m mode h past) ++ (next_step m mode past h).events

-- no item but a step of hart h changes what the hart has told
abbrev pub TellsByStepsAlone : Type 0
TellsByStepsAlone =
    (m : Machine) (mode : Mode) (h hart : ℕ) (past : List Item)
    → (hart == h) ≡ false → unplaced (events m mode h (Step hart ∷ past)) ≡ unplaced (events m mode h past)
