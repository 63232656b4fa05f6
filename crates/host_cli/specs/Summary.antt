-- The summary of the run of a generated program; `docs/top-call.md` lists its lines.
use Rattle.std.specs.Prelude.{ℕ, ◌==◌, List, [], ◌++◌, codes, find, map, sum_by, take, Option, Some, None}
use Rattle.flat_model.specs.declared.events.Class.TheVariants.{Atomic}
use Rattle.flat_model.specs.declared.journals.Item.{Item}
use Rattle.flat_model.specs.declared.plugins.Kind.{Kind}
use Rattle.flat_model.specs.declared.plugins.Row.{Row}
use Rattle.flat_model.specs.Access.{number_of}
use Rattle.flat_model.specs.Registry.{Plugins}
use Rattle.flat_model.specs.World.{HartState}
use Rattle.flat_model.specs.Worlds.{world, hart_of}
use Rattle.watcher_api.specs.Tallies.{class_number}
use Rattle.run_rules.specs.Guest.{Run, plugins}
use Rattle.run_order.specs.InOrder.{Task, task_run}
use Rattle.run_order.specs.Sets.{harts_of}
use Rattle.host_state.specs.Registered.{called_by}
use Rattle.report_text.specs.Report.{set_in, merged_rows}
use Rattle.report_text.specs.RowLines.{named_line}

-- the first 8 bytes of what the guest has written as a number, low byte first; a byte that isn't there is 0
abbrev pub first_number : List ℕ → ℕ
first_number bytes = number_of (take 8 bytes)

abbrev pub sum_written : Task → List Item → ℕ
sum_written t past = first_number (world t.machine t.mode past).shared.output

-- the harts, as the log leaves them
abbrev pub harts_after : Task → List Item → List HartState
harts_after t past = map (hart_of t.machine t.mode past) (harts_of (task_run t))

-- the steps that all of them have made, and the blocks that they have started
abbrev pub steps_made : Task → List Item → ℕ
steps_made t past = sum_by (λ hart. hart.steps) (harts_after t past)

abbrev pub blocks_started : Task → List Item → ℕ
blocks_started t past = sum_by (λ hart. hart.blocks) (harts_after t past)

-- the rows of the first subscription of the first set of the first plug-in, merged over the harts; none where it calls no box
abbrev pub first_rows : Run → List Item → Option Kind → List Row
first_rows run past None = []
first_rows run past (Some kind) = merged_rows run past 1 0 0 kind

-- the kind of box that this subscription calls
abbrev pub first_called : Plugins → Option Kind
first_called r = called_by (set_in r 1 0) 0

abbrev pub count_in : Option Row → ℕ
count_in None = 0
count_in (Some row) = row.a

-- what the row of a key counts; 0 where there is none
abbrev pub counted_at : ℕ → List Row → ℕ
counted_at key rows = count_in (find (λ row. row.key == key) rows)

-- the atomic instructions that all harts have executed, as the first plug-in, which is that of the word `classes`, has counted them
abbrev pub atomics_counted : Task → List Item → ℕ
atomics_counted t past =
    counted_at (class_number Atomic) (first_rows (task_run t) past (first_called (plugins (task_run t) past)))

unfoldable pub summary_lines : ℕ → ℕ → ℕ → ℕ → ℕ → List ℕ
summary_lines n sum steps blocks atomics =
    named_line (codes "self") n ++ (named_line (codes "sum") sum ++ (named_line (codes "steps") steps
    ++ (named_line (codes "blocks") blocks ++ named_line (codes "atomics") atomics)))

-- the summary of the run of the program of n, by what is run and the log
unfoldable pub summary_of : ℕ → Task → List Item → List ℕ
summary_of n t past = summary_lines n (sum_written t past) (steps_made t past) (blocks_started t past) (atomics_counted t past)
