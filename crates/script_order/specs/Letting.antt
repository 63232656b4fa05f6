-- What an order leaves as it was of what a hart's runner has.
use Rattle.std.specs.Prelude.{◌≡◌, ◌<◌, ◌≤◌, ℕ, true, false, List, ◌∷◌}
use Rattle.flat_model.specs.declared.journals.Item.{Item}
use Rattle.flat_model.specs.declared.journals.Item.TheVariants.{Ordered}
use Rattle.flat_model.specs.declared.journals.Order.{Order}
use Rattle.flat_model.specs.declared.journals.Origin.{Origin}
use Rattle.flat_model.specs.Registry.{plugin_of}
use Rattle.flat_model.specs.Worlds.{world}
use Rattle.run_rules.specs.Guest.{plugins}
use Rattle.run_rules.specs.Heard.{is_live, waiting}
use Rattle.run_rules.specs.Legal.{Legal, is_there}
use Rattle.run_rules.specs.Places.{IsStateLog, place_of, is_with_hart}
use Rattle.run_order.specs.Sets.{sets_for}
use Rattle.run_order.specs.InOrder.{Task, task_run}
use Rattle.kept_order.specs.Hearing.{specs_for}

-- hart h is there as before, with the same sets, in the same world; an ask of it can only have lost its wait: a plug-in that has a set
-- with the hart and is Live was Live, and one that has none asks for what it asked for
pub record LetsBe (t : Task) (h : ℕ) (past now : List Item) : Type 0 where
  pub there : is_there (task_run t) h now ≡ is_there (task_run t) h past
  pub sets : sets_for is_with_hart (task_run t) h now ≡ sets_for is_with_hart (task_run t) h past
  pub specs : specs_for (task_run t) h now ≡ specs_for (task_run t) h past
  pub world : world t.machine t.mode now ≡ world t.machine t.mode past
  pub places : (plugin : ℕ) → 1 ≤ plugin
      → is_with_hart (place_of (task_run t) plugin h now) ≡ is_with_hart (place_of (task_run t) plugin h past)
  pub live : (plugin : ℕ) → 1 ≤ plugin → is_with_hart (place_of (task_run t) plugin h past) ≡ true
      → is_live (plugin_of (plugins (task_run t) now) plugin).state ≡ true
      → is_live (plugin_of (plugins (task_run t) past) plugin).state ≡ true
  pub unasked : (plugin : ℕ) → 1 ≤ plugin → is_with_hart (place_of (task_run t) plugin h past) ≡ false
      → waiting (task_run t) plugin h now ≡ waiting (task_run t) plugin h past
  pub asks : (plugin : ℕ) → 1 ≤ plugin → is_live (plugin_of (plugins (task_run t) now) plugin).state ≡ true
      → waiting (task_run t) plugin h now ≡ waiting (task_run t) plugin h past

-- An order that may stand lets every hart be, whoever gives it.
abbrev pub OrdersLetHartsBe : Type 0
OrdersLetHartsBe = (t : Task) (h : ℕ) (origin : Origin) (order : Order) (past : List Item) → h < t.machine.harts
    → Legal (task_run t) (Ordered origin order ∷ past) → IsStateLog (task_run t) past
    → LetsBe t h past (Ordered origin order ∷ past)
