-- The world of the flat machine: memory, reservations, output, the group's code, the harts and their starts.
use Rattle.std.specs.Prelude.{nat_lt, ℕ, ◌+◌, ◌-◌, ◌%◌, ◌<◌, ◌≤◌, ◌≡◌, ◌==◌, Bool, true, false}
use Rattle.std.specs.Prelude.{if◌then◌else◌, length, List, [], replicate}
use Rattle.std.specs.Prelude.{slice_set, slice_index, Option, Some, None, option_map, find, unwrap_or, ℤ}
use Rattle.flat_model.specs.declared.events.Ending.{Ending}
use Rattle.flat_model.specs.declared.journals.Mode.{Mode}
use Rattle.flat_model.specs.declared.journals.Mode.TheVariants.{All, First}
use Rattle.flat_model.specs.declared.limits.TheConstants.{STACK_BYTES}
use Rattle.flat_model.specs.Image.{Segment, Program, holds}
use Rattle.flat_model.specs.Permission.{stack_base}

-- what is run: an image, on so many harts, each for at most so many steps
pub record Machine : Type 0 where
  pub image : Program
  pub harts : ℕ
  pub limit : ℕ

-- where a hart begins: a pc and an argument
pub record Start : Type 0 where
  pub pc : ℕ
  pub arg : ℕ

-- one hart: the pc, registers x0 to x31, the steps made, the steps since its last block start (0 exactly
-- where the next step starts a block), the blocks started at a present word, how it ended, and whether it has no start yet
pub record HartState : Type 0 where
  pub pc : ℕ
  pub x : List ℕ
  pub since : ℕ
  pub steps : ℕ
  pub blocks : ℕ
  pub ending : Option Ending
  pub parked : Bool

-- what the harts share: the byte at each address, the address of the 8 bytes that each hart has
-- reserved, the output, the code that the group ended with, and the start of each hart that has one
pub record Shared : Type 0 where
  pub bytes : ℕ → ℕ
  pub reserved : ℕ → Option ℕ
  pub output : List ℕ
  pub group : Option ℤ
  pub starts : ℕ → Option Start

pub record World : Type 0 where
  pub harts : ℕ → HartState
  pub shared : Shared

-- what a hart keeps while it runs
pub record IsHart (hart : HartState) : Type 0 where
  pub aligned : hart.pc % 4 ≡ 0
  pub since_small : hart.since < 512
  pub since_counted : hart.since ≤ hart.steps
  pub blocks_counted : hart.blocks ≤ hart.steps
  pub registers : length hart.x ≡ 32

-- where hart h's stack ends, where its sp begins
abbrev pub stack_end : ℕ → ℕ
stack_end h = stack_base h + STACK_BYTES

-- sp is the end of the hart's stack, a0 its number, a1 the number of harts, a2 the argument, and all else is 0
abbrev pub opening_registers : ℕ → ℕ → ℕ → List ℕ
opening_registers h harts arg =
    slice_set (slice_set (slice_set (slice_set (replicate 32 0) 2 (stack_end h)) 10 h) 11 harts) 12 arg

-- hart h of so many, where it begins by this start
abbrev pub started_hart : ℕ → ℕ → Start → HartState
started_hart h harts start = record {
  pc = start.pc;
  x = opening_registers h harts start.arg;
  since = 0;
  steps = 0;
  blocks = 0;
  ending = None;
  parked = false;
}

-- a hart without a start, which is parked at the entry
abbrev pub parked_hart : Program → HartState
parked_hart image = record {
  pc = image.entry;
  x = replicate 32 0;
  since = 0;
  steps = 0;
  blocks = 0;
  ending = None;
  parked = true;
}

-- the start of hart h from the first: at the entry for all harts, or for hart 0 alone
abbrev pub start_at : Program → Start
start_at image = record { pc = image.entry; arg = 0 }

abbrev pub opening_start : Program → Mode → ℕ → Option Start
opening_start image All h = Some (start_at image)
opening_start image First h = if h == 0 then Some (start_at image) else None

-- a hart by its start, if it has one
abbrev pub hart_by : Program → ℕ → ℕ → Option Start → HartState
hart_by image h harts None = parked_hart image
hart_by image h harts (Some start) = started_hart h harts start

abbrev pub opening_hart : Program → Mode → ℕ → ℕ → HartState
opening_hart image mode h harts = hart_by image h harts (opening_start image mode h)

-- the image's byte at the address, and 0 where the image has none
abbrev pub opening_bytes : List Segment → ℕ → ℕ
opening_bytes regions addr =
    unwrap_or (option_map (λ s. slice_index s.bytes (addr - s.base)) (find (holds addr 1) regions)) 0

-- the starts from the first of a run on so many harts; a number that is no hart's has none
abbrev pub opening_starts : Program → Mode → ℕ → ℕ → Option Start
opening_starts image mode harts h = if nat_lt h harts then opening_start image mode h else None

abbrev pub opening_shared : Program → Mode → ℕ → Shared
opening_shared image mode harts = record {
  bytes = opening_bytes image.regions;
  reserved = λ _. None;
  output = [];
  group = None;
  starts = opening_starts image mode harts;
}

abbrev pub opening_world : Machine → Mode → World
opening_world m mode = record { harts = λ h. opening_hart m.image mode h m.harts; shared = opening_shared m.image mode m.harts }
