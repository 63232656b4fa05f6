-- The log of the events that steps have told.
use Rattle.std.specs.Prelude.{◌≡◌, Bool, List, ◌++◌}
use Rattle.flat_model.specs.declared.events.Event.{Event}

-- the events, and whether the log stores them
pub record LogState : Type 0 where
  pub events : List Event
  pub kept : Bool

-- the log has got these events behind its own
pub record Logs (before : LogState) (more : List Event) (after : LogState) : Type 0 where
  pub events : after.events ≡ before.events ++ more
  pub kept : after.kept ≡ before.kept
