-- A box that is held, as plain data: its kind and the events that it heard.
use Rattle.std.specs.Prelude.{List, [], ◌∷◌, ◌++◌}
use Rattle.flat_model.specs.declared.events.Event.{Event}
use Rattle.flat_model.specs.declared.plugins.Kind.{Kind}

pub record Heard : Type 0 where
  pub kind : Kind
  pub events : List Event

-- the box once it has heard one event more
abbrev pub with_event : Heard → Event → Heard
with_event heard e = record heard { events = heard.events ++ e ∷ [] }
