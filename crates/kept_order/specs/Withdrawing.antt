-- Orders that boxes and controllers give: where they may stand, and what the withdrawal of a set leaves as it was.
use Rattle.std.specs.Prelude.{◌≡◌, ◌≤◌, ◌&&◌, ℕ, true, not, if◌then◌else◌, List, ◌∷◌, Some, None, length}
use Rattle.std.specs.List.Sorted.{IsNonDecreasingBy}
use Rattle.flat_model.specs.declared.plugins.Ask.TheVariants.{Stay}
use Rattle.flat_model.specs.declared.journals.Item.{Item}
use Rattle.flat_model.specs.declared.journals.Item.TheVariants.{Ordered}
use Rattle.flat_model.specs.declared.journals.Order.{Order}
use Rattle.flat_model.specs.declared.journals.Origin.{Origin}
use Rattle.flat_model.specs.declared.journals.Origin.TheVariants.{Start, Script, Asked, Control}
use Rattle.flat_model.specs.declared.limits.TheConstants.{PLUGINS_MOST}
use Rattle.flat_model.specs.Registry.{Plugins, plugin_of, refusal}
use Rattle.flat_model.specs.Worlds.{world}
use Rattle.run_rules.specs.Guest.{Run, plugins}
use Rattle.run_rules.specs.Heard.{is_live, waiting}
use Rattle.run_rules.specs.Due.{allowed, wanted}
use Rattle.run_rules.specs.Legal.{Legal, is_there, asked_order}
use Rattle.run_rules.specs.Places.{is_with_hart, withdraws}
use Rattle.run_order.specs.Sets.{sets_for}
use Rattle.run_order.specs.InOrder.{Task, task_run}
use Rattle.kept_order.specs.Hearing.{specs_for}
use Rattle.kept_order.specs.Ordering.{IsWithdrawal}

-- who gives an order that isn't the plan's
abbrev pub IsUnplanned : Origin → Type 0
IsUnplanned Start = ⊥
IsUnplanned (Script line party) = ⊥
IsUnplanned (Asked hart plugin) = Unit {0}
IsUnplanned (Control party) = Unit {0}

-- where the plan wants nothing, it wants nothing behind such an order
abbrev pub UnplannedOrdersPassNothingBy : Type 0
UnplannedOrdersPassNothingBy = (run : Run) (origin : Origin) (order : Order) (past : List Item)
    → IsNonDecreasingBy (λ t. t.when) run.plan.script → IsUnplanned origin → wanted run past ≡ None
    → wanted run (Ordered origin order ∷ past) ≡ None

-- a withdrawal moves no set, and lets every hart be; the plug-in that it names isn't Live any more, so its asks wait no longer
pub record MovesNothing (t : Task) (h : ℕ) (order : Order) (past now : List Item) : Type 0 where
  pub there : is_there (task_run t) h now ≡ is_there (task_run t) h past
  pub sets : sets_for is_with_hart (task_run t) h now ≡ sets_for is_with_hart (task_run t) h past
  pub specs : specs_for (task_run t) h now ≡ specs_for (task_run t) h past
  pub world : world t.machine t.mode now ≡ world t.machine t.mode past
  pub as_many : length (plugins (task_run t) now).plugins ≡ length (plugins (task_run t) past).plugins
  pub live : (plugin : ℕ) → 1 ≤ plugin → is_live (plugin_of (plugins (task_run t) now) plugin).state
      ≡ (not (withdraws order plugin) && is_live (plugin_of (plugins (task_run t) past) plugin).state)
  pub asks : (plugin : ℕ) → 1 ≤ plugin → waiting (task_run t) plugin h now
      ≡ (if withdraws order plugin then Stay else waiting (task_run t) plugin h past)

abbrev pub WithdrawalsMoveNothing : Type 0
WithdrawalsMoveNothing = (t : Task) (h : ℕ) (origin : Origin) (order : Order) (past : List Item) → IsWithdrawal order
    → allowed (plugins (task_run t) past) order ≡ true → MovesNothing t h order past (Ordered origin order ∷ past)

-- the registry allows the withdrawal of a plug-in that is Live
abbrev pub LiveMayBeWithdrawn : Type 0
LiveMayBeWithdrawn = (r : Plugins) (order : Order) (plugin : ℕ) → IsWithdrawal order → withdraws order plugin ≡ true → 1 ≤ plugin
    → is_live (plugin_of r plugin).state ≡ true → refusal r order ≡ None

-- so an order that a box asks for may stand
abbrev pub AsksStand : Type 0
AsksStand = (run : Run) (h plugin : ℕ) (order : Order) (past : List Item) → Legal run past → wanted run past ≡ None → 1 ≤ plugin
    → asked_order plugin (waiting run plugin h past) ≡ Some order → Legal run (Ordered (Asked h plugin) order ∷ past)

abbrev pub PluginsAreFew : Type 0
PluginsAreFew = (run : Run) (past : List Item) → Legal run past → length (plugins run past).plugins ≤ PLUGINS_MOST
