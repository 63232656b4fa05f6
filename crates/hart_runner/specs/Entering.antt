-- What a hart does first in a hold: it gives back the plug-ins that it owes.
use Rattle.std.specs.Prelude.{◌≡◌, ℕ, true, false, List, None, length}
use Rattle.flat_model.specs.declared.plugins.SetSpec.{SetSpec}
use Rattle.flat_model.specs.declared.journals.Item.{Item}
use Rattle.flat_model.specs.declared.journals.Item.TheVariants.{Step, Ordered, GaveBack, Left, Told, Got, Took}
use Rattle.flat_model.specs.Worlds.{world}
use Rattle.baton_gate.specs.Logs.{GoesOn}
use Rattle.watcher_api.specs.Attachment.{Attachment}
use Rattle.run_rules.specs.Guest.{plugins}
use Rattle.run_rules.specs.Due.{wanted}
use Rattle.run_rules.specs.Legal.{is_there, asks_nothing}
use Rattle.run_rules.specs.Places.{is_with_hart}
use Rattle.run_order.specs.Sets.{sets_for}
use Rattle.run_order.specs.InOrder.{task_run}
use Rattle.kept_order.specs.Hearing.{specs_for}
use Rattle.host_state.specs.State.{StateValue}

-- a hart may give back what it owes: none of its asks waits, and nothing that the plan wants is missing
pub record MayReturn (no : ℕ) (s : StateValue) (attached : List Attachment) (filters : List (ℕ × SetSpec)) : Type 0 where
  pub open_now : s.short ≡ false
  pub there : is_there (task_run s.task) no s.past ≡ true
  pub quiet : asks_nothing (task_run s.task) no s.past ≡ true
  pub caught_up : wanted (task_run s.task) s.past ≡ None
  pub sets : attached ≡ sets_for is_with_hart (task_run s.task) no s.past
  pub specs : filters ≡ specs_for (task_run s.task) no s.past

-- the item is a Back of hart h
abbrev pub IsBackBy : ℕ → Item → Type 0
IsBackBy h (Step hart) = ⊥
IsBackBy h (Ordered origin order) = ⊥
IsBackBy h (GaveBack hart plugin) = hart ≡ h
IsBackBy h (Left hart) = ⊥
IsBackBy h (Told party plugin) = ⊥
IsBackBy h (Got hart plugin) = ⊥
IsBackBy h (Took party plugin) = ⊥

-- and has given some back
pub record HasReturned (no : ℕ) (old new : StateValue) : Type 0 where
  pub backs : GoesOn (IsBackBy no) old.past new.past
  pub rest : new ≡ record old {
    past = new.past;
    journal = new.journal;
    registry = new.registry;
    waiting = new.waiting;
    arriving = new.arriving;
    parked = new.parked;
  }
  pub world : world new.task.machine new.task.mode new.past ≡ world old.task.machine old.task.mode old.past
  pub as_many : length (plugins (task_run new.task) new.past).plugins ≡ length (plugins (task_run old.task) old.past).plugins
