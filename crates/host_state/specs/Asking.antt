-- The orders that the boxes of a hart ask for.
use Rattle.std.specs.Prelude.{◌≡◌, ◌≤◌, ◌==◌, ℕ, true, if◌then◌else◌, List, length}
use Rattle.flat_model.specs.declared.plugins.Ask.TheVariants.{Stay}
use Rattle.flat_model.specs.declared.journals.How.{How}
use Rattle.flat_model.specs.declared.journals.How.TheVariants as how
use Rattle.flat_model.specs.declared.journals.Item.{Item}
use Rattle.flat_model.specs.declared.journals.Item.TheVariants.{Step, Ordered, GaveBack, Left, Told, Got, Took}
use Rattle.flat_model.specs.declared.journals.Order.{Order}
use Rattle.flat_model.specs.declared.journals.Order.TheVariants.{Reset, Uninstall}
use Rattle.flat_model.specs.declared.journals.Origin.{Origin}
use Rattle.flat_model.specs.declared.journals.Origin.TheVariants.{Start, Script, Asked, Control}
use Rattle.flat_model.specs.Registry.{plugin_of}
use Rattle.flat_model.specs.Worlds.{world}
use Rattle.run_rules.specs.Guest.{plugins}
use Rattle.run_rules.specs.Heard.{is_live, waiting}
use Rattle.run_rules.specs.Legal.{is_there}
use Rattle.run_rules.specs.Places.{is_with_hart}
use Rattle.run_order.specs.Sets.{sets_for}
use Rattle.run_order.specs.InOrder.{Task, task_run}
use Rattle.kept_order.specs.Hearing.{specs_for}

abbrev pub IsFrom : ℕ → Origin → Type 0
IsFrom h Start = ⊥
IsFrom h (Script line party) = ⊥
IsFrom h (Asked hart plugin) = hart ≡ h
IsFrom h (Control party) = ⊥

-- an order that a box on hart h asked for
abbrev pub IsAskedBy : ℕ → Item → Type 0
IsAskedBy h (Step hart) = ⊥
IsAskedBy h (Ordered origin order) = IsFrom h origin
IsAskedBy h (GaveBack hart plugin) = ⊥
IsAskedBy h (Left hart) = ⊥
IsAskedBy h (Told party plugin) = ⊥
IsAskedBy h (Got hart plugin) = ⊥
IsAskedBy h (Took party plugin) = ⊥

-- the order that withdraws a plug-in's set so
abbrev pub withdrawal : ℕ → How → Order
withdrawal plugin how.Reset = Reset plugin
withdrawal plugin how.Uninstall = Uninstall plugin

abbrev pub asked_item : ℕ → ℕ → How → Item
asked_item h plugin how = Ordered (Asked h plugin) (withdrawal plugin how)

-- what orders that boxes ask for leave as it was
pub record IsUnmoved (t : Task) (h : ℕ) (past now : List Item) : Type 0 where
  pub there : is_there (task_run t) h now ≡ is_there (task_run t) h past
  pub sets : sets_for is_with_hart (task_run t) h now ≡ sets_for is_with_hart (task_run t) h past
  pub specs : specs_for (task_run t) h now ≡ specs_for (task_run t) h past
  pub world : world t.machine t.mode now ≡ world t.machine t.mode past
  pub as_many : length (plugins (task_run t) now).plugins ≡ length (plugins (task_run t) past).plugins

-- and what they make of the asks on hart h: those of one plug-in wait no longer, and the others' do as before
pub record IsQuieted (t : Task) (h plugin : ℕ) (past now : List Item) : Type 0 where
  pub live : (p : ℕ) → 1 ≤ p → is_live (plugin_of (plugins (task_run t) now) p).state ≡ true
      → is_live (plugin_of (plugins (task_run t) past) p).state ≡ true
  pub asks : (p : ℕ) → 1 ≤ p → waiting (task_run t) p h now ≡ (if plugin == p then Stay else waiting (task_run t) p h past)
