-- One step of a hart with what the harts share.
use Rattle.std.specs.Prelude.{◌≡◌, ◌<◌, ◌≤◌, ◌+◌, ℕ, false, None, length}
use Rattle.flat_model.specs.Image.{Program}
use Rattle.flat_model.specs.World.{Machine, HartState}
use Rattle.flat_model.specs.Step.{IsSharedStep}
use Rattle.guest_memory.specs.Memory.{MemoryState, harts_of}
use Rattle.rv_exec.specs.Going.{TellsFew}
use Rattle.rv_exec.specs.Logged.{LogState}
use Rattle.rv_exec.specs.Sharing.{ServicesState, shared_of, IsMemoryOf, KeepsLayout, KeepsPlaces, HasRoom}

-- what a step of hart h needs
pub record IsReady (image : Program) (h limit : ℕ) (hart : HartState) (memory : MemoryState) (services : ServicesState)
    (raw : LogState) : Type 0 where
  pub awake : hart.parked ≡ false
  pub running : hart.ending ≡ None
  pub below : hart.steps < limit
  pub going_on : services.group ≡ None
  pub no : h < harts_of memory
  pub places : length services.starts ≡ harts_of memory
  pub spans : IsMemoryOf image memory
  pub output : HasRoom services
  pub room : length raw.events + 6 ≤ 2048

-- what it leaves of the hart, the memory and the services, with its events behind those before
pub record HasStepped (m : Machine) (h : ℕ) (old new : HartState) (memory memory_left : MemoryState)
    (services services_left : ServicesState) (before after : LogState) : Type 0 where
  pub step : IsSharedStep m h old new (shared_of memory services) (shared_of memory_left services_left) before.events after.events
  pub kept : after.kept ≡ before.kept
  pub few : TellsFew old new before.events after.events
  pub awake : new.parked ≡ false
  pub counted : new.steps ≡ old.steps + 1
  pub within_limit : new.ending ≡ None → new.steps < m.limit
  pub layout : KeepsLayout memory memory_left
  pub places : KeepsPlaces services services_left
