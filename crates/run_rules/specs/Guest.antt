-- What the rules of journals ask of a machine: questions about the world of a log, and nothing of how it is kept.
use Rattle.std.specs.Prelude.{ℕ, Bool, List, is_some}
use Rattle.flat_model.specs.declared.events.Event.{Event}
use Rattle.flat_model.specs.declared.journals.Item.{Item}
use Rattle.flat_model.specs.declared.journals.Mode.{Mode}
use Rattle.flat_model.specs.declared.limits.TheConstants.{RACK_BOXES}
use Rattle.flat_model.specs.Plan.{Planned}
use Rattle.flat_model.specs.Registry.{Plugins, registry}
use Rattle.flat_model.specs.World.{Machine}
use Rattle.flat_model.specs.Worlds.{world, hart_of, next_step}
use Rattle.event_walk.specs.Matches.{Classes, classes_of}

-- after a log: the events of the step that a hart makes next, whether a hart is parked, whether it has ended, and whether the
-- group has ended; and the classes of the guest's words
pub record Guest : Type 0 where
  pub next_events : List Item → ℕ → List Event
  pub is_parked : List Item → ℕ → Bool
  pub has_ended : List Item → ℕ → Bool
  pub is_over : List Item → Bool
  pub classes : Classes

-- what is run: a guest on so many harts, with so many boxes in the rack, and the plan of installs and script lines
pub record Run : Type 0 where
  pub guest : Guest
  pub harts : ℕ
  pub boxes : ℕ
  pub plan : Planned

-- the flat machine as a guest
abbrev pub guest_of : Machine → Mode → Guest
guest_of m mode = record {
  next_events = λ past h. (next_step m mode past h).events;
  is_parked = λ past h. (hart_of m mode past h).parked;
  has_ended = λ past h. is_some (hart_of m mode past h).ending;
  is_over = λ past. is_some (world m mode past).shared.group;
  classes = classes_of m.image;
}

abbrev pub run_of : Machine → Mode → Planned → Run
run_of m mode plan = record { guest = guest_of m mode; harts = m.harts; boxes = RACK_BOXES; plan = plan }

-- the plug-ins after a log
abbrev pub plugins : Run → List Item → Plugins
plugins run past = registry run.harts run.boxes past
