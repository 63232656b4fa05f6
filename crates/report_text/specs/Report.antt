-- The report of a run that is whole, and its status, by what is run and the log.
use Rattle.std.specs.Prelude.{ℕ, ◌+◌, ◌-◌, ◌||◌, Bool, if◌then◌else◌, List, [], ◌++◌, length, map, slice_index_or, Option, Some, None}
use Rattle.std.specs.List.{flat_map, range_with_len}
use Rattle.flat_model.specs.declared.journals.Item.{Item}
use Rattle.flat_model.specs.declared.plugins.Kind.{Kind}
use Rattle.flat_model.specs.declared.plugins.KindName.{KindName}
use Rattle.flat_model.specs.declared.plugins.Row.{Row}
use Rattle.flat_model.specs.declared.plugins.SetSpec.{SetSpec}
use Rattle.flat_model.specs.Columns.{entry_sum}
use Rattle.flat_model.specs.Registry.{Plugins, sets_of, ending_of}
use Rattle.flat_model.specs.Texts.{hart_line, status_of}
use Rattle.flat_model.specs.Worlds.{world, hart_of}
use Rattle.watcher_api.specs.Tallies.{rows}
use Rattle.run_rules.specs.Guest.{Run, plugins}
use Rattle.run_rules.specs.Heard.{no_set, heard, column}
use Rattle.run_order.specs.InOrder.{Task, task_run}
use Rattle.run_order.specs.Sets.{harts_of}
use Rattle.host_state.specs.Registered.{called_by}
use Rattle.report_text.specs.Merging.{merged}
use Rattle.report_text.specs.RowLines.{set_line, entry_line, sub_line, row_line}

-- the texts of the numbers from one up to another, which isn't one of them
unfoldable pub each : (ℕ → List ℕ) → ℕ → ℕ → List ℕ
each text from below = flat_map text (range_with_len from (below - from))

-- the line of a hart, by the world of the log
abbrev pub hart_text : Task → List Item → ℕ → List ℕ
hart_text t past h = hart_line h (world t.machine t.mode past).shared.group (hart_of t.machine t.mode past h)

-- What follows is about the set at a place, from 0, of a plug-in, from 1, where the plug-ins are these.

abbrev pub set_in : Plugins → ℕ → ℕ → SetSpec
set_in r plugin set = slice_index_or (sets_of r plugin) set no_set

-- the line of an entry: the sum of the harts' entries modulo 2^64
abbrev pub entry_text : Run → List Item → ℕ → ℕ → ℕ → List ℕ
entry_text run past plugin set entry =
    entry_line entry (entry_sum entry (map (λ h. column run plugin set h past) (harts_of run)))

-- the rows of a subscription's boxes of a kind, merged over the harts
unfoldable pub merged_rows : Run → List Item → ℕ → ℕ → ℕ → Kind → List Row
merged_rows run past plugin set sub kind = merged kind.name (map (λ h. rows kind (heard run plugin set sub h past)) (harts_of run))

unfoldable pub row_texts : KindName → List Row → List ℕ
row_texts name rows = flat_map (row_line name) rows

-- the lines of a subscription that calls boxes of a kind; none where it calls none
abbrev pub called_text : Run → List Item → ℕ → ℕ → ℕ → Option Kind → List ℕ
called_text run past plugin set sub None = []
called_text run past plugin set sub (Some kind) =
    sub_line sub kind.name ++ row_texts kind.name (merged_rows run past plugin set sub kind)

abbrev pub sub_text : Run → List Item → Plugins → ℕ → ℕ → ℕ → List ℕ
sub_text run past r plugin set sub = called_text run past plugin set sub (called_by (set_in r plugin set) sub)

-- a set: how it ended, its entries and its subscriptions
abbrev pub set_text : Run → List Item → Plugins → ℕ → ℕ → List ℕ
set_text run past r plugin set =
    set_line plugin (set + 1) (ending_of r plugin set)
    ++ (each (entry_text run past plugin set) 0 (set_in r plugin set).entries
    ++ each (sub_text run past r plugin set) 0 (length (set_in r plugin set).subs))

-- a plug-in's sets
abbrev pub plugin_text : Run → List Item → Plugins → ℕ → List ℕ
plugin_text run past r plugin = each (set_text run past r plugin) 0 (length (sets_of r plugin))

-- the harts in order, and then the plug-ins by their numbers
abbrev pub texts_of : Task → List Item → Plugins → List ℕ
texts_of t past r =
    each (hart_text t past) 0 t.machine.harts ++ each (plugin_text (task_run t) past r) 1 (length r.plugins + 1)

unfoldable pub report_of : Task → List Item → List ℕ
report_of t past = texts_of t past (plugins (task_run t) past)

-- the status by whether a hart ended by a fault, by its limit or with a code other than 0, and whether the group ended with one
abbrev pub status_by : Bool → Bool → Bool → Bool → ℕ
status_by fault limit failure group_failed = if fault then 8 else (if limit then 9 else (if failure || group_failed then 1 else 0))

-- the status of a run, by the endings of its harts and its group's code
unfoldable pub status_after : Task → List Item → ℕ
status_after t past =
    status_of (world t.machine t.mode past).shared.group
    (map (λ h. (hart_of t.machine t.mode past h).ending) (harts_of (task_run t)))
