-- Completions that are settled once every hart has left.
use Rattle.std.specs.Prelude.{◌≡◌, ◌≤◌, ℕ, Bool, true, false, List, ◌∷◌, None, length}
use Rattle.flat_model.specs.declared.journals.Item.{Item}
use Rattle.flat_model.specs.declared.journals.Item.TheVariants.{Step, Ordered, GaveBack, Left, Told, Got, Took}
use Rattle.flat_model.specs.Registry.{has_left, is_complete}
use Rattle.run_rules.specs.Guest.{plugins}
use Rattle.run_rules.specs.Due.{wanted}
use Rattle.run_order.specs.InOrder.{task_run}
use Rattle.host_state.specs.Closing.{NoneIsDue}
use Rattle.host_state.specs.State.{StateValue}

-- a party may settle what is due: it hasn't left, nothing that the plan wants is missing, and no hart found too little memory
pub record MaySettle (by : ℕ) (s : StateValue) : Type 0 where
  pub open_now : s.short ≡ false
  pub caught_up : wanted (task_run s.task) s.past ≡ None
  pub there : has_left (plugins (task_run s.task) s.past) by ≡ false

-- the item is one by which the party settles a completion
abbrev pub IsSettledBy : ℕ → Item → Type 0
IsSettledBy by (Step hart) = ⊥
IsSettledBy by (Ordered origin order) = ⊥
IsSettledBy by (GaveBack hart plugin) = ⊥
IsSettledBy by (Left hart) = ⊥
IsSettledBy by (Told party plugin) = party ≡ by
IsSettledBy by (Got hart plugin) = ⊥
IsSettledBy by (Took party plugin) = party ≡ by

-- the party took the closing of a plug-in that was complete, told its closer, and recorded the Done
pub record HasTold (by : ℕ) (old new : StateValue) : Type 0 where
  pub plugin : ℕ
  pub complete : is_complete (plugins (task_run old.task) old.past) plugin ≡ true
  pub past : new.past ≡ Told by plugin ∷ Took by plugin ∷ old.past

-- no closing was due
pub record HasNoneDue (old new : StateValue) : Type 0 where
  pub past : new.past ≡ old.past
  pub none : NoneIsDue new

abbrev pub IsSettled : Bool → ℕ → StateValue → StateValue → Type 0
IsSettled true by old new = HasTold by old new
IsSettled false by old new = HasNoneDue old new
