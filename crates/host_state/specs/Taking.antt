-- Sets that a hart takes out of the state.
use Rattle.std.specs.Prelude.{◌≡◌, ℕ, true, List, ◌∷◌}
use Rattle.flat_model.specs.declared.plugins.SetSpec.{SetSpec}
use Rattle.flat_model.specs.declared.journals.Item.{Item}
use Rattle.flat_model.specs.declared.journals.Item.TheVariants.{Step, Ordered, GaveBack, Left, Told, Got, Took}
use Rattle.watcher_api.specs.Attachment.{Attachment, with_set}
use Rattle.watcher_api.specs.Acting.{IsAbsent}
use Rattle.baton_gate.specs.Logs.{GoesOn}
use Rattle.run_rules.specs.Places.{is_with_hart, may_get}
use Rattle.run_order.specs.Sets.{sets_for}
use Rattle.run_order.specs.InOrder.{task_run}
use Rattle.kept_order.specs.Hearing.{specs_for}
use Rattle.kept_order.specs.Arriving.{with_spec}
use Rattle.host_state.specs.Filters.{HasNoSpec}
use Rattle.host_state.specs.State.{StateValue}

-- the item is one by which hart h takes a set
abbrev pub IsGotBy : ℕ → Item → Type 0
IsGotBy h (Step hart) = ⊥
IsGotBy h (Ordered origin order) = ⊥
IsGotBy h (GaveBack hart plugin) = ⊥
IsGotBy h (Left hart) = ⊥
IsGotBy h (Told party plugin) = ⊥
IsGotBy h (Got hart plugin) = hart ≡ h
IsGotBy h (Took party plugin) = ⊥

-- the set of a plug-in was taken, which hart h may have, with its filters: the hart has one set more then, and it had none of this
-- plug-in
pub record IsTakenOut (h plugin : ℕ) (old new : StateValue) (attachment : Attachment) (filters : SetSpec) : Type 0 where
  pub may : may_get (task_run old.task) h plugin old.past ≡ true
  pub number : attachment.plugin ≡ plugin
  pub past : new.past ≡ Got h plugin ∷ old.past
  pub rest : new ≡ record old { past = new.past; waiting = new.waiting; arriving = new.arriving }
  pub no_set : IsAbsent plugin (sets_for is_with_hart (task_run old.task) h old.past)
  pub no_filters : HasNoSpec plugin (specs_for (task_run old.task) h old.past)
  pub sets : sets_for is_with_hart (task_run old.task) h new.past
      ≡ with_set attachment (sets_for is_with_hart (task_run old.task) h old.past)
  pub specs : specs_for (task_run old.task) h new.past
      ≡ with_spec (plugin, filters) (specs_for (task_run old.task) h old.past)

-- hart h took sets, and has these with these filters then
pub record HasAttached (h : ℕ) (old new : StateValue) (sets : List Attachment) (specs : List (ℕ × SetSpec)) : Type 0 where
  pub gots : GoesOn (IsGotBy h) old.past new.past
  pub rest : new ≡ record old { past = new.past; waiting = new.waiting; arriving = new.arriving }
  pub attached : sets ≡ sets_for is_with_hart (task_run new.task) h new.past
  pub filters : specs ≡ specs_for (task_run new.task) h new.past
