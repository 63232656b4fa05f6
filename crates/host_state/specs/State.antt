-- The state that the harts of a run share, as plain data, and what it keeps.
use Rattle.std.specs.Prelude.{◌≡◌, ◌+◌, ◌*◌, ◌≤◌, ◌⊎◌, ℕ, Bool, true, List, length, Option, None}
use Rattle.flat_model.specs.declared.journals.Item.{Item}
use Rattle.flat_model.specs.declared.plugins.SetSpec.{SetSpec}
use Rattle.flat_model.specs.declared.limits.TheConstants.{HARTS_MOST, TOTAL_MOST, PLUGINS_MOST}
use Rattle.flat_model.specs.World.{Machine, HartState}
use Rattle.guest_memory.specs.Memory.{MemoryState, harts_of}
use Rattle.rv_exec.specs.Sharing.{ServicesState, shared_of, IsMemoryOf}
use Rattle.plug_registry.specs.State.{RegistryState}
use Rattle.run_journal.specs.Journal.{JournalState}
use Rattle.watcher_api.specs.Attachment.{Attachment}
use Rattle.run_rules.specs.Due.{wanted}
use Rattle.run_order.specs.Sets.{Notice}
use Rattle.run_order.specs.InOrder.{Task, Stored, InOrder, task_run}
use Rattle.kept_order.specs.Arriving.{arrivals}
use Rattle.host_state.specs.Rooms.{Room, HasRooms}

-- the run; memory and services; plug-ins and journal with their room; the log; the sets that wait, their filters, and the sets that
-- are parked, by plug-in and hart; the harts that have left; the notices of the closers that are there, and the room for the next
-- notice of each plug-in; the boxes and closers that no set has yet;
-- which harts found no memory; and whether one did, so that nothing is recorded any more
pub record StateValue : Type 0 where
  pub task : Task
  pub memory : MemoryState
  pub services : ServicesState
  pub registry : RegistryState
  pub journal : JournalState
  pub past : List Item
  pub waiting : List (List (Option Attachment))
  pub arriving : List (List (Option SetSpec))
  pub parked : List (List (Option Attachment))
  pub harts : List (Option HartState)
  pub closers : List (Option (List Notice))
  pub rooms : List Room
  pub boxes : ℕ
  pub spare_closers : ℕ
  pub failed : List Bool
  pub short : Bool

-- what of it is said by its log
abbrev pub stored_of : StateValue → Stored
stored_of s = record {
  past = s.past;
  entries = s.journal.entries;
  shared = shared_of s.memory s.services;
  plugins = s.registry.table;
  waiting = s.waiting;
  parked = s.parked;
  harts = s.harts;
  closers = s.closers;
}

-- a run within the limits
pub record IsWithinLimits (m : Machine) : Type 0 where
  pub some_hart : 1 ≤ m.harts
  pub harts : m.harts ≤ HARTS_MOST
  pub some_step : 1 ≤ m.limit
  pub steps : m.harts * m.limit ≤ TOTAL_MOST

-- what every state keeps: it is in order; its parts are those of its run; each plug-in has room for its notice; boxes and closers are
-- left for the sets to come
pub record IsSound (s : StateValue) : Type 0 where
  pub order : InOrder s.task (stored_of s)
  pub arriving : s.arriving ≡ arrivals (task_run s.task) s.past
  pub limits : IsWithinLimits s.task.machine
  pub memory : IsMemoryOf s.task.machine.image s.memory
  pub places : harts_of s.memory ≡ s.task.machine.harts
  pub starts : length s.services.starts ≡ s.task.machine.harts
  pub rooms : HasRooms (task_run s.task) s.past s.rooms
  pub boxes : s.registry.table.boxes ≤ s.boxes
  pub closers : PLUGINS_MOST ≤ length s.registry.table.plugins + s.spare_closers
  pub failed : length s.failed ≡ s.task.machine.harts

-- a state may be given back where nothing that the plan wants is missing, or where a hart found no memory
abbrev pub IsCaughtUp : StateValue → Type 0
IsCaughtUp s = (s.short ≡ true) ⊎ (wanted (task_run s.task) s.past ≡ None)
