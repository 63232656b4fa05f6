-- Where a report has come to, and what of it is still to come.
use Rattle.std.specs.Prelude.{◌≡◌, ◌<◌, ◌≤◌, ℕ, ◌+◌, Bool, true, false, List, [], ◌++◌, length, drop}
use Rattle.flat_model.specs.declared.plugins.KindName.{KindName}
use Rattle.flat_model.specs.declared.plugins.Row.{Row}
use Rattle.flat_model.specs.Registry.{sets_of}
use Rattle.run_order.specs.InOrder.{task_run}
use Rattle.host_state.specs.State.{StateValue}
use Rattle.report_text.specs.declared.lines.Place.{Place}
use Rattle.report_text.specs.declared.lines.Place.TheVariants.{Harts, Entries, Rows, End}
use Rattle.report_text.specs.Report.{each, hart_text, entry_text, sub_text, set_text, plugin_text, row_texts, set_in}

-- the harts from one on
abbrev pub harts_from : StateValue → ℕ → List ℕ
harts_from s hart = each (hart_text s.task s.past) hart s.task.machine.harts

-- the plug-ins from a number on
abbrev pub plugins_from : StateValue → ℕ → List ℕ
plugins_from s plugin = each (plugin_text (task_run s.task) s.past s.registry.table) plugin (length s.registry.table.plugins + 1)

-- the sets of a plug-in from a place on, and then the plug-ins behind it
abbrev pub sets_from : StateValue → ℕ → ℕ → List ℕ
sets_from s plugin set =
    each (set_text (task_run s.task) s.past s.registry.table plugin) set (length (sets_of s.registry.table plugin))
    ++ plugins_from s (plugin + 1)

-- the subscriptions of a set from one on, and then what is behind the set
abbrev pub subs_from : StateValue → ℕ → ℕ → ℕ → List ℕ
subs_from s plugin set sub =
    each (sub_text (task_run s.task) s.past s.registry.table plugin set) sub (length (set_in s.registry.table plugin set).subs)
    ++ sets_from s plugin (set + 1)

-- the entries of a set from one on, and then its subscriptions
abbrev pub entries_from : StateValue → ℕ → ℕ → ℕ → List ℕ
entries_from s plugin set entry =
    each (entry_text (task_run s.task) s.past plugin set) entry (set_in s.registry.table plugin set).entries
    ++ subs_from s plugin set 0

-- what is still to come at a place, where these are the rows of the subscription there
abbrev pub rest_at : StateValue → Place → KindName → List Row → List ℕ
rest_at s (Harts hart) name rows = harts_from s hart ++ plugins_from s 1
rest_at s (Entries plugin set entry) name rows = entries_from s plugin set entry
rest_at s (Rows plugin set sub row) name rows = row_texts name (drop row rows) ++ subs_from s plugin set (sub + 1)
rest_at s End name rows = []

-- a set that a plug-in has registered
pub record IsSet (s : StateValue) (plugin set : ℕ) : Type 0 where
  pub least : 1 ≤ plugin
  pub most : plugin ≤ length s.registry.table.plugins
  pub there : set < length (sets_of s.registry.table plugin)

abbrev pub IsPlace : StateValue → Place → Type 0
IsPlace s (Harts hart) = Unit {0}
IsPlace s (Entries plugin set entry) = IsSet s plugin set
IsPlace s (Rows plugin set sub row) = IsSet s plugin set
IsPlace s End = Unit {0}

-- `due` is still to come: a line of it is put behind what was there and the rest stays, or there is none
pub record Goes (due before after rest : List ℕ) (more : Bool) : Type 0 where
  pub text : after ++ rest ≡ before ++ due
  pub grows : more ≡ true → length before < length after
  pub ends : more ≡ false → rest ≡ []
