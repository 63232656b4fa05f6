-- Orders of controllers.
use Rattle.std.specs.Prelude.{◌≡◌, Some}
use Rattle.flat_model.specs.declared.journals.Order.{Order}
use Rattle.flat_model.specs.declared.orders.OrderRefusal.{OrderRefusal}
use Rattle.flat_model.specs.declared.refusals.Refused.{Refused}
use Rattle.flat_model.specs.declared.refusals.Refused.TheVariants.{Because, NoMemory}
use Rattle.flat_model.specs.Registry.{refusal}
use Rattle.host_state.specs.State.{StateValue}

-- the state is as it was, but for room
pub record IsAsBefore (old new : StateValue) : Type 0 where
  pub rest : new ≡ record old { registry = new.registry; journal = new.journal }
  pub table : new.registry.table ≡ old.registry.table
  pub entries : new.journal.entries ≡ old.journal.entries

-- a refusal is that of the registry
abbrev pub IsOfRegistry : Order → StateValue → StateValue → Refused OrderRefusal → Type 0
IsOfRegistry order old new (Because why) = (refusal old.registry.table order ≡ Some why) × (new ≡ old)
IsOfRegistry order old new NoMemory = Unit {0}

-- and where there is no memory nothing has changed either
abbrev pub IsWithoutMemory : StateValue → StateValue → Refused OrderRefusal → Type 0
IsWithoutMemory old new (Because why) = Unit {0}
IsWithoutMemory old new NoMemory = IsAsBefore old new

-- what an order may change
abbrev pub ChangesByOrder : StateValue → StateValue → Type 0
ChangesByOrder old new = new ≡ record old {
  past = new.past;
  journal = new.journal;
  registry = new.registry;
  waiting = new.waiting;
  arriving = new.arriving;
  parked = new.parked;
  closers = new.closers;
  rooms = new.rooms;
  boxes = new.boxes;
  spare_closers = new.spare_closers;
}
