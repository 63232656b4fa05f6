-- What a run on one thread keeps of the world of its steps.
use Rattle.std.specs.Prelude.{◌≡◌, ◌<◌, ◌≤◌, ◌*◌, ℕ, true, if◌then◌else◌, List, length, slice_index_or, Option, Some, None}
use Rattle.flat_model.specs.declared.events.Event.{Event}
use Rattle.flat_model.specs.declared.journals.Item.{Item}
use Rattle.flat_model.specs.declared.journals.Mode.{Mode}
use Rattle.flat_model.specs.Image.{Program}
use Rattle.flat_model.specs.World.{Machine, HartState, Start, started_hart, opening_hart}
use Rattle.flat_model.specs.Worlds.{world, hart_of}
use Rattle.guest_memory.specs.Memory.{MemoryState, harts_of}
use Rattle.rv_exec.specs.Logged.{LogState}
use Rattle.rv_exec.specs.Sharing.{ServicesState, shared_of, IsMemoryOf}
use Rattle.block_finder.specs.Caches.{MayServe}
use Rattle.lock_step.specs.Tellings.{all_told, of_hart}

-- the run, the log of its steps so far, and the events of the last of them
pub record LoneState : Type 0 where
  pub machine : Machine
  pub mode : Mode
  pub past : List Item
  pub events : List Event

-- a hart that was parked when it was looked at last, once it has this start
abbrev pub woken : ℕ → ℕ → HartState → Option Start → HartState
woken h harts hart None = hart
woken h harts hart (Some start) = if hart.parked then started_hart h harts start else hart

-- hart h as it was when it was looked at last, of the world of a log: it may have its start since. It has told at most 6 events
-- a step.
pub record IsSeen (m : Machine) (mode : Mode) (past : List Item) (h : ℕ) (hart : HartState) : Type 0 where
  pub now : hart_of m mode past h ≡ woken h m.harts hart ((world m mode past).shared.starts h)
  pub parked : (world m mode past).shared.starts h ≡ None → hart.parked ≡ true
  pub unmoved : hart.parked ≡ true → hart.steps ≡ 0
  pub below : hart.ending ≡ None → hart.steps < m.limit
  pub within : hart.steps ≤ m.limit
  pub few : length (of_hart h (all_told m mode past)) ≤ 6 * hart.steps

abbrev pub AreSeen : Machine → Mode → List Item → List HartState → Type 0
AreSeen m mode past harts = (h : ℕ) (d : HartState) → h < m.harts → IsSeen m mode past h (slice_index_or harts h d)

-- the memory and the services are those of the world of a log
pub record IsShared (m : Machine) (mode : Mode) (past : List Item) (memory : MemoryState) (services : ServicesState) : Type 0 where
  pub shared : shared_of memory services ≡ (world m mode past).shared
  pub places : length services.starts ≡ m.harts
  pub harts : harts_of memory ≡ m.harts
  pub spans : IsMemoryOf m.image memory

pub record IsKept (m : Machine) (mode : Mode) (past : List Item) (harts : List HartState) (memory : MemoryState)
    (services : ServicesState) (blocks : Option Program) (raw : LogState) : Type 0 where
  pub some_step : 1 ≤ m.limit
  pub all : length harts ≡ m.harts
  pub seen : AreSeen m mode past harts
  pub shared : IsShared m mode past memory services
  pub serves : MayServe blocks m.image
  pub stored : raw.kept ≡ true

-- the harts from the first
pub record AreFirst (image : Program) (mode : Mode) (harts : ℕ) (first : List HartState) : Type 0 where
  pub all : length first ≡ harts
  pub each : (h : ℕ) (d : HartState) → h < harts → slice_index_or first h d ≡ opening_hart image mode h harts
