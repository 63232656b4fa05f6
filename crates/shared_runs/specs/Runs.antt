-- Shared runs: steps of one hart in a row with what the harts share, through a block and out of it.
use Rattle.std.specs.Prelude.{◌≡◌, ◌<◌, ◌≤◌, ◌+◌, ℕ, false, List, ◌++◌, length, None}
use Rattle.flat_model.specs.declared.events.Event.{Event}
use Rattle.flat_model.specs.Image.{Program}
use Rattle.flat_model.specs.World.{Machine, HartState, Shared}
use Rattle.flat_model.specs.Step.{Stepped, steps_of}
use Rattle.guest_memory.specs.Memory.{MemoryState, harts_of}
use Rattle.rv_exec.specs.Logged.{LogState}
use Rattle.rv_exec.specs.Sharing.{ServicesState, IsMemoryOf, HasRoom}

-- k steps of hart h from old to new, which leave this of what is shared; their events are appended
pub record AreSharedSteps (m : Machine) (h k : ℕ) (old new : HartState) (shared left : Shared) (before after : List Event) : Type 0 where
  pub given : List Event
  pub appended : after ≡ before ++ given
  pub steps : steps_of m h k old shared ≡ record { hart = new; shared = left; events = given }

-- the hart may make the next step: it runs, and its group goes on
pub record RunsOn (s : Stepped) : Type 0 where
  pub awake : s.hart.parked ≡ false
  pub running : s.hart.ending ≡ None
  pub going_on : s.shared.group ≡ None

-- what a step of hart h needs
pub record MayStep (image : Program) (h limit : ℕ) (hart : HartState) (memory : MemoryState) (services : ServicesState)
    (raw : LogState) : Type 0 where
  pub awake : hart.parked ≡ false
  pub running : hart.ending ≡ None
  pub below : hart.steps < limit
  pub going_on : services.group ≡ None
  pub no : h < harts_of memory
  pub places : length services.starts ≡ harts_of memory
  pub spans : IsMemoryOf image memory
  pub output : HasRoom services
  pub room : length raw.events + 6 ≤ 2048
