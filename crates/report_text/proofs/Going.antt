-- What a line puts of what is still to come.
use Rattle.std.proofs.Common.{◌≡◌, ◌<◌, ◌≤◌, ◌+◌, ◌∙◌, ℕ, true, List, ◌++◌, length, map, get_or, drop, Option, Some, refl, sym, ap, subst, arith}
use Rattle.std.specs.Prelude.{ℤ}
use Rattle.flat_model.specs.declared.journals.How.{How}
use Rattle.flat_model.specs.declared.plugins.Kind.{Kind}
use Rattle.flat_model.specs.declared.plugins.KindName.{KindName}
use Rattle.flat_model.specs.declared.plugins.Row.{Row}
use Rattle.flat_model.specs.Columns.{entry_sum}
use Rattle.flat_model.specs.Registry.{sets_of, ending_of}
use Rattle.flat_model.specs.Texts.{hart_line}
use Rattle.flat_model.specs.World.{HartState}
use Rattle.flat_model.specs.Worlds.{world, hart_of}
use Rattle.run_rules.specs.Heard.{column}
use Rattle.run_order.specs.InOrder.{task_run}
use Rattle.run_order.specs.Sets.{harts_of}
use Rattle.host_state.specs.Registered.{called_by}
use Rattle.host_state.specs.State.{StateValue}
use Rattle.report_text.specs.Places.{harts_from, plugins_from, sets_from, subs_from, entries_from, Goes}
use Rattle.report_text.specs.Report.{hart_text, merged_rows, set_in, row_texts}
use Rattle.report_text.specs.RowLines.{row_line, set_line, entry_line, sub_line}
use Rattle.report_text.proofs.Coming.{hart_comes, set_comes, entry_comes, sub_comes, row_comes}
use Rattle.report_text.proofs.Coming.{hart_line_some, set_line_some, entry_line_some, sub_line_some, row_line_some}
use Rattle.report_text.proofs.Eaches.{goes_on}

module _ (s : StateValue) (before after : List ℕ) where
  pub hart_goes : (hart : ℕ) (group : Option ℤ) (h : HartState) (line : List ℕ) → hart < s.task.machine.harts
      → group ≡ (world s.task.machine s.task.mode s.past).shared.group → h ≡ hart_of s.task.machine s.task.mode s.past hart
      → line ≡ hart_line hart group h → after ≡ before ++ line
      → Goes (harts_from s hart ++ plugins_from s 1) before after (harts_from s (hart + 1) ++ plugins_from s 1) true
  hart_goes hart group h line low g is made put =
      let text : line ≡ hart_text s.task s.past hart =
      made ∙ (ap (λ x. hart_line hart x h) g ∙ ap (hart_line hart (world s.task.machine s.task.mode s.past).shared.group) is) in
      goes_on (harts_from s hart ++ plugins_from s 1) (hart_text s.task s.past hart) before after (harts_from s (hart + 1) ++ plugins_from s 1)
      (put ∙ ap (λ xs. before ++ xs) text) (hart_comes s hart low)
      (hart_line_some hart (world s.task.machine s.task.mode s.past).shared.group (hart_of s.task.machine s.task.mode s.past hart))

  pub set_goes : (plugin set : ℕ) (ending : Option How) → set < length (sets_of s.registry.table plugin)
      → ending ≡ ending_of s.registry.table plugin set → after ≡ before ++ set_line plugin (set + 1) ending
      → Goes (sets_from s plugin set) before after (entries_from s plugin set 0) true
  set_goes plugin set ending there is put =
      goes_on (sets_from s plugin set) (set_line plugin (set + 1) ending) before after (entries_from s plugin set 0) put
      (set_comes s plugin set ending there is) (set_line_some plugin (set + 1) ending)

  pub entry_goes : (plugin set entry sum : ℕ) → entry < (set_in s.registry.table plugin set).entries
      → sum ≡ entry_sum entry (map (λ h. column (task_run s.task) plugin set h s.past) (harts_of (task_run s.task)))
      → after ≡ before ++ entry_line entry sum
      → Goes (entries_from s plugin set entry) before after (entries_from s plugin set (entry + 1)) true
  entry_goes plugin set entry sum below is put =
      goes_on (entries_from s plugin set entry) (entry_line entry sum) before after (entries_from s plugin set (entry + 1)) put
      (entry_comes s plugin set entry sum below is) (entry_line_some entry sum)

  pub sub_goes : (plugin set from sub : ℕ) (kind : Kind) (rows : List Row) → sub < length (set_in s.registry.table plugin set).subs
      → subs_from s plugin set from ≡ subs_from s plugin set sub
      → called_by (set_in s.registry.table plugin set) sub ≡ Some kind
      → rows ≡ merged_rows (task_run s.task) s.past plugin set sub kind
      → after ≡ before ++ sub_line sub kind.name
      → Goes (subs_from s plugin set from) before after (row_texts kind.name (drop 0 rows) ++ subs_from s plugin set (sub + 1)) true
  sub_goes plugin set from sub kind rows below passed calls are put =
      goes_on (subs_from s plugin set from) (sub_line sub kind.name) before after
      (row_texts kind.name (drop 0 rows) ++ subs_from s plugin set (sub + 1)) put
      (passed ∙ sub_comes s plugin set sub kind rows below calls are) (sub_line_some sub kind.name)

  pub row_goes : (name : KindName) (rows : List Row) (row plugin set sub : ℕ) (d : Row) → row < length rows
      → after ≡ before ++ row_line name (get_or rows row d)
      → Goes (row_texts name (drop row rows) ++ subs_from s plugin set (sub + 1)) before after
      (row_texts name (drop (row + 1) rows) ++ subs_from s plugin set (sub + 1)) true
  row_goes name rows row plugin set sub d below put =
      goes_on (row_texts name (drop row rows) ++ subs_from s plugin set (sub + 1)) (row_line name (get_or rows row d)) before after
      (row_texts name (drop (row + 1) rows) ++ subs_from s plugin set (sub + 1)) put
      (row_comes s name rows row plugin set sub d below) (row_line_some name (get_or rows row d))
