-- What a controller does with the state in one hold.
use Rattle.std.specs.Prelude.{◌≡◌, ◌<◌, ◌≤◌, ℕ, true, false, ◌∷◌, Some, None}
use Rattle.flat_model.specs.declared.journals.Item.TheVariants.{Ordered, Took}
use Rattle.flat_model.specs.declared.journals.Order.{Order}
use Rattle.flat_model.specs.declared.journals.Origin.TheVariants.{Control}
use Rattle.flat_model.specs.declared.orders.OrderRefusal.{OrderRefusal}
use Rattle.flat_model.specs.declared.refusals.Refused.{Refused}
use Rattle.flat_model.specs.declared.refusals.Refused.TheVariants.{Because, NoMemory}
use Rattle.flat_model.specs.Log.{party}
use Rattle.flat_model.specs.Registry.{refusal}
use Rattle.baton_gate.specs.Logs.{Adds}
use Rattle.run_rules.specs.Guest.{plugins}
use Rattle.run_order.specs.Sets.{notice_of, notices_of}
use Rattle.run_order.specs.InOrder.{InHand, task_run}
use Rattle.kept_order.specs.Closing.{is_due}
use Rattle.host_state.specs.State.{StateValue, IsCaughtUp}
use Rattle.run_controls.specs.Controlling.{NoClosingIsDue, SomeIsDue}

-- the party added to the log alone, and the state may be given back
pub record IsPartOf (who : ℕ) (old new : StateValue) : Type 0 where
  pub adds : Adds party new.past who old.past
  pub caught_up : IsCaughtUp new
  pub task : new.task ≡ old.task

-- the order stands, which the registry allows
pub record Orders (who : ℕ) (order : Order) (old new : StateValue) : Type 0 where
  pub allowed : refusal (plugins (task_run old.task) old.past) order ≡ None
  pub past : new.past ≡ Ordered (Control who) order ∷ old.past

-- nothing was added, and a refusal is that of the registry
abbrev pub Denies : Order → StateValue → StateValue → Refused OrderRefusal → Type 0
Denies order old new (Because why) = (new.past ≡ old.past) × (refusal (plugins (task_run old.task) old.past) order ≡ Some why)
Denies order old new NoMemory = new.past ≡ old.past

-- the closing of the least plug-in of which one was due was taken, and its closer is still to be told
pub record TakesUp (who : ℕ) (old new : StateValue) (c : InHand) : Type 0 where
  pub due : is_due (task_run old.task) c.plugin old.past ≡ true
  pub least : (p : ℕ) → 1 ≤ p → p < c.plugin → is_due (task_run old.task) p old.past ≡ false
  pub past : new.past ≡ Took who c.plugin ∷ old.past
  pub notices : c.notices ≡ notices_of (task_run old.task) c.plugin old.past
  pub back : c.back ≡ Some (notice_of (task_run old.task) c.plugin old.past)

-- nothing was due, and nothing was added
pub record FindsNone (old new : StateValue) : Type 0 where
  pub none : NoClosingIsDue old.task old.past
  pub past : new.past ≡ old.past

-- a hart had found too little memory, and something was due
pub record FindsShort (old new : StateValue) : Type 0 where
  pub some : SomeIsDue old.task old.past
  pub past : new.past ≡ old.past
