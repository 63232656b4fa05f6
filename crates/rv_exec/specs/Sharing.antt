-- What the harts share, as the code keeps it, and what an instruction leaves of it.
use Rattle.std.specs.Prelude.{◌≡◌, ℕ, ℤ, ◌+◌, ◌≤◌, min, length, slice_index_or, List, [], ◌∷◌, Option, None}
use Rattle.flat_model.specs.declared.events.What.TheVariants.{SysRet}
use Rattle.flat_model.specs.declared.journals.Mode.{Mode}
use Rattle.flat_model.specs.declared.limits.TheConstants.{WRITE_MOST, OUTPUT_MOST}
use Rattle.flat_model.specs.Image.{Program}
use Rattle.flat_model.specs.Permission.{spans_of}
use Rattle.flat_model.specs.World.{Machine, HartState, Shared, Start, opening_starts}
use Rattle.flat_model.specs.Effect.{gives}
use Rattle.flat_model.specs.Outcome.{Outcome, called, a7_of}
use Rattle.guest_memory.specs.Memory.{MemoryState, bytes_of, reserved_of, spans_in, harts_of}

-- what the services keep: the output, the group's code, each hart's start, and how many bytes the output has room
-- for in all
pub record ServicesState : Type 0 where
  pub output : List ℕ
  pub group : Option ℤ
  pub starts : List (Option Start)
  pub room : ℕ

-- the start of each hart
abbrev pub starts_of : ServicesState → ℕ → Option Start
starts_of services h = slice_index_or services.starts h None

-- the memory and what the services keep
abbrev pub shared_of : MemoryState → ServicesState → Shared
shared_of memory services = record {
  bytes = bytes_of memory;
  reserved = reserved_of memory;
  output = services.output;
  group = services.group;
  starts = starts_of services;
}

-- a run of the image on the memory's harts
abbrev pub machine_on : Program → MemoryState → ℕ → Machine
machine_on image memory limit = record { image = image; harts = harts_of memory; limit = limit }

-- the memory has the spans of the image and of its harts' stacks
abbrev pub IsMemoryOf : Program → MemoryState → Type 0
IsMemoryOf image memory = spans_in memory ≡ spans_of image (harts_of memory)

-- the starts, one for each hart, that a run of the image on so many harts starts with
pub record AreStarts (image : Program) (mode : Mode) (harts : ℕ) (starts : List (Option Start)) : Type 0 where
  pub each : (λ h. slice_index_or starts h None) ≡ opening_starts image mode harts
  pub count : length starts ≡ harts

-- the services that a run of the image on so many harts starts with
pub record AreOpening (image : Program) (mode : Mode) (harts : ℕ) (services : ServicesState) : Type 0 where
  pub output : services.output ≡ []
  pub group : services.group ≡ None
  pub starts : starts_of services ≡ opening_starts image mode harts
  pub count : length services.starts ≡ harts

-- an access changes neither spans nor the number of harts
pub record KeepsLayout (old new : MemoryState) : Type 0 where
  pub spans : spans_in new ≡ spans_in old
  pub harts : harts_of new ≡ harts_of old

-- what a step never changes of the services: the places of the starts, and the room that the output has
pub record KeepsPlaces (old new : ServicesState) : Type 0 where
  pub starts : length new.starts ≡ length old.starts
  pub room : old.room ≤ new.room

-- the outcome is a service's answer, with this left of what is shared
pub record IsAnswer (o : Outcome) (hart : HartState) (memory : MemoryState) (services : ServicesState) (result : ℕ) : Type 0 where
  pub done : o.done ≡ gives hart 10 result
  pub shared : shared_of memory services ≡ o.shared
  pub told : o.told ≡ called hart ∷ SysRet (a7_of hart) result ∷ []

-- an output of this length and room has room for what one call of `write` appends: 4,096 bytes, or as many as its
-- limit leaves
abbrev pub HasRoomFor : ℕ → ℕ → Type 0
HasRoomFor len room = min (len + WRITE_MOST) OUTPUT_MOST ≤ room

abbrev pub HasRoom : ServicesState → Type 0
HasRoom services = HasRoomFor (length services.output) services.room
