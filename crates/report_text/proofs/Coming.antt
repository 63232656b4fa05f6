-- What of a report is still to come, from one place to the next.
use Rattle.std.proofs.Common.{◌≡◌, ◌<◌, ◌≤◌, ◌+◌, ◌-◌, ◌∙◌, ℕ, zero, suc, Bool, true, false, List, [], ◌∷◌, ◌++◌, length, Option, Some, None}
use Rattle.std.proofs.Common.{refl, sym, ap, subst, arith, append_assoc, append-nil, length-append, map}
use Rattle.std.specs.Prelude.{nat_lt, nat_le, ◌&&◌, if◌then◌else◌, slice_index_or, slice_get, option_and_then, drop}
use Rattle.std.proofs.lemmas.Bool.{cases_Bool, false≢true}
use Rattle.std.proofs.lemmas.Bool.Decides.{nat_tests}
use Rattle.std.specs.Prelude.{ℤ}
use Rattle.std.proofs.Common.{add-one, get_or}
use Rattle.std.proofs.Math.Seq.{drop-cons}
use Rattle.std.proofs.lemmas.List.{drop_all}
use Rattle.std.proofs.lemmas.Option.{slice_get_within, slice_get_read}
use Rattle.watcher_api.specs.Attachment.{called_kind}
use Rattle.flat_model.specs.declared.journals.How.{How}
use Rattle.flat_model.specs.declared.plugins.Kind.{Kind}
use Rattle.flat_model.specs.declared.plugins.KindName.{KindName}
use Rattle.flat_model.specs.declared.plugins.KindName.TheVariants.{Counts, Hot, Mem, Exec, Classes, Pages, Own}
use Rattle.flat_model.specs.declared.plugins.Row.{Row}
use Rattle.flat_model.specs.declared.plugins.SetSpec.{SetSpec}
use Rattle.flat_model.specs.declared.plugins.Sub.{Sub}
use Rattle.flat_model.specs.Columns.{entry_sum}
use Rattle.flat_model.specs.Registry.{Plugins, plugin_of, sets_of, ending_of, is_installed}
use Rattle.flat_model.specs.Texts.{hart_line}
use Rattle.flat_model.specs.World.{HartState}
use Rattle.run_rules.specs.Heard.{column}
use Rattle.run_order.specs.InOrder.{task_run}
use Rattle.run_order.specs.Sets.{harts_of}
use Rattle.host_state.specs.Registered.{called_by}
use Rattle.host_state.specs.State.{StateValue}
use Rattle.report_text.specs.Report.{each, hart_text, entry_text, sub_text, called_text, set_text, merged_rows, set_in, row_texts}
use Rattle.report_text.specs.RowLines.{row_line, named_line, hot_line, mem_line, exec_line, page_line, event_word, class_word}
use Rattle.report_text.specs.RowLines.{set_line, entry_line, sub_line}
use Rattle.report_text.specs.Places.{harts_from, plugins_from, sets_from, subs_from, entries_from, IsSet}
use Rattle.report_text.proofs.Eaches.{each_none, each_more}

-- the row at a place, and those behind it
next : (row : ℕ) (rows : List Row) (d : Row) → row < length rows → drop row rows ≡ get_or rows row d ∷ drop (row + 1) rows
next row rows d below = rw (add-one row) (drop-cons rows row d below)

-- a number past the last plug-in's has no sets
none_past : (r : Plugins) (plugin : ℕ) → length r.plugins < plugin → sets_of r plugin ≡ []
none_past r plugin past =
    let out : is_installed r plugin ≡ false = grind (arith, nat_tests) in
    ap (λ b. if b then (plugin_of r plugin).sets else []) out

-- a plug-in that has a set is installed
pub installed_set : (s : StateValue) (plugin set : ℕ) → 1 ≤ plugin → set < length (sets_of s.registry.table plugin) → IsSet s plugin set
installed_set s plugin set least there = record {
  least = least;
  most = by (nat_lt (length s.registry.table.plugins) plugin) refl;
  there = there;
}
  where
    by : (b : Bool) → nat_lt (length s.registry.table.plugins) plugin ≡ b → plugin ≤ length s.registry.table.plugins
    by true is =
        let past : length s.registry.table.plugins < plugin = grind (arith, nat_tests) in
        let none : length (sets_of s.registry.table plugin) ≡ 0 = ap length (none_past s.registry.table plugin past) in
        absurd (omega (arith, there, none))
    by false is = grind (arith, nat_tests)

module _ (s : StateValue) where
  -- the plug-ins from one on are its sets and those behind it
  pub plugins_are_sets : (plugin : ℕ) → 1 ≤ plugin → plugins_from s plugin ≡ sets_from s plugin 0
  plugins_are_sets plugin least = by (nat_lt (length s.registry.table.plugins) plugin) refl
    where
      by : (b : Bool) → nat_lt (length s.registry.table.plugins) plugin ≡ b → plugins_from s plugin ≡ sets_from s plugin 0
      by true is =
          let past : length s.registry.table.plugins < plugin = grind (arith, nat_tests) in
          let none : length (sets_of s.registry.table plugin) ≡ 0 = ap length (none_past s.registry.table plugin past) in
          each_none _ plugin (length s.registry.table.plugins + 1) (omega (arith, past))
          ∙ (sym (each_none _ (plugin + 1) (length s.registry.table.plugins + 1) (omega (arith, past)))
          ∙ ap (λ xs. xs ++ plugins_from s (plugin + 1)) (sym (each_none _ 0 (length (sets_of s.registry.table plugin)) (omega (arith, none)))))
      by false is =
          let under : plugin < length s.registry.table.plugins + 1 = grind (arith, nat_tests) in
          each_more _ plugin (length s.registry.table.plugins + 1) under

  -- past the last set of a plug-in come the sets of the next
  pub sets_go_over : (plugin set : ℕ) → length (sets_of s.registry.table plugin) ≤ set → sets_from s plugin set ≡ sets_from s (plugin + 1) 0
  sets_go_over plugin set over =
      ap (λ xs. xs ++ plugins_from s (plugin + 1)) (each_none _ set (length (sets_of s.registry.table plugin)) over)
      ∙ plugins_are_sets (plugin + 1) (omega arith)

  -- past the last set of the last plug-in comes nothing
  pub sets_end : (plugin set : ℕ) → length (sets_of s.registry.table plugin) ≤ set → length s.registry.table.plugins ≤ plugin
      → sets_from s plugin set ≡ []
  sets_end plugin set over last =
      ap (λ xs. xs ++ plugins_from s (plugin + 1)) (each_none _ set (length (sets_of s.registry.table plugin)) over)
      ∙ each_none _ (plugin + 1) (length s.registry.table.plugins + 1) (omega (arith, last))

  -- a subscription that calls no box has no text
  pub sub_passes : (plugin set sub : ℕ) → sub < length (set_in s.registry.table plugin set).subs
      → called_by (set_in s.registry.table plugin set) sub ≡ None → subs_from s plugin set sub ≡ subs_from s plugin set (sub + 1)
  sub_passes plugin set sub below none =
      ap (λ xs. xs ++ sets_from s plugin (set + 1))
      (each_more _ sub (length (set_in s.registry.table plugin set).subs) below
      ∙ ap (λ kind. called_text (task_run s.task) s.past plugin set sub kind
      ++ each (sub_text (task_run s.task) s.past s.registry.table plugin set) (sub + 1) (length (set_in s.registry.table plugin set).subs)) none)

  -- the line of a subscription that calls one, its rows, and the subscriptions behind it
  pub sub_comes : (plugin set sub : ℕ) (kind : Kind) (rows : List Row) → sub < length (set_in s.registry.table plugin set).subs
      → called_by (set_in s.registry.table plugin set) sub ≡ Some kind
      → rows ≡ merged_rows (task_run s.task) s.past plugin set sub kind
      → subs_from s plugin set sub ≡ sub_line sub kind.name ++ (row_texts kind.name (drop 0 rows) ++ subs_from s plugin set (sub + 1))
  sub_comes plugin set sub kind rows below calls are =
      let behind = each (sub_text (task_run s.task) s.past s.registry.table plugin set) (sub + 1) (length (set_in s.registry.table plugin set).subs) in
      let line = sub_line sub kind.name in
      let body = row_texts kind.name rows in
      ap (λ xs. xs ++ sets_from s plugin (set + 1))
      (each_more _ sub (length (set_in s.registry.table plugin set).subs) below
      ∙ (ap (λ k. called_text (task_run s.task) s.past plugin set sub k ++ behind) calls
      ∙ ap (λ xs. (line ++ row_texts kind.name xs) ++ behind) (sym are)))
      ∙ (append_assoc (line ++ body) behind (sets_from s plugin (set + 1))
      ∙ append_assoc line body (behind ++ sets_from s plugin (set + 1)))

  -- past the last subscription
  pub subs_end : (plugin set sub : ℕ) → length (set_in s.registry.table plugin set).subs ≤ sub
      → subs_from s plugin set sub ≡ sets_from s plugin (set + 1)
  subs_end plugin set sub over =
      ap (λ xs. xs ++ sets_from s plugin (set + 1)) (each_none _ sub (length (set_in s.registry.table plugin set).subs) over)

  pub entry_comes : (plugin set entry sum : ℕ) → entry < (set_in s.registry.table plugin set).entries
      → sum ≡ entry_sum entry (map (λ h. column (task_run s.task) plugin set h s.past) (harts_of (task_run s.task)))
      → entries_from s plugin set entry ≡ entry_line entry sum ++ entries_from s plugin set (entry + 1)
  entry_comes plugin set entry sum below is =
      ap (λ xs. xs ++ subs_from s plugin set 0) (each_more _ entry (set_in s.registry.table plugin set).entries below)
      ∙ (append_assoc (entry_text (task_run s.task) s.past plugin set entry)
      (each (entry_text (task_run s.task) s.past plugin set) (entry + 1) (set_in s.registry.table plugin set).entries) (subs_from s plugin set 0)
      ∙ ap (λ n. entry_line entry n ++ entries_from s plugin set (entry + 1)) (sym is))

  pub entries_end : (plugin set entry : ℕ) → (set_in s.registry.table plugin set).entries ≤ entry
      → entries_from s plugin set entry ≡ subs_from s plugin set 0
  entries_end plugin set entry over =
      ap (λ xs. xs ++ subs_from s plugin set 0) (each_none _ entry (set_in s.registry.table plugin set).entries over)

  -- the line of a set, its entries and subscriptions, and the sets behind it
  pub set_comes : (plugin set : ℕ) (ending : Option How) → set < length (sets_of s.registry.table plugin)
      → ending ≡ ending_of s.registry.table plugin set
      → sets_from s plugin set ≡ set_line plugin (set + 1) ending ++ entries_from s plugin set 0
  set_comes plugin set ending below is =
      let run = task_run s.task in
      let line = set_line plugin (set + 1) (ending_of s.registry.table plugin set) in
      let entries = each (entry_text run s.past plugin set) 0 (set_in s.registry.table plugin set).entries in
      let subs = each (sub_text run s.past s.registry.table plugin set) 0 (length (set_in s.registry.table plugin set).subs) in
      let behind = each (set_text run s.past s.registry.table plugin) (set + 1) (length (sets_of s.registry.table plugin)) in
      let more = plugins_from s (plugin + 1) in
      ap (λ xs. xs ++ more) (each_more _ set (length (sets_of s.registry.table plugin)) below)
      ∙ (append_assoc (line ++ (entries ++ subs)) behind more
      ∙ (append_assoc line (entries ++ subs) (behind ++ more)
      ∙ (ap (λ xs. line ++ xs) (append_assoc entries subs (behind ++ more))
      ∙ ap (λ e. set_line plugin (set + 1) e ++ (entries ++ (subs ++ (behind ++ more)))) (sym is))))

  pub row_comes : (name : KindName) (rows : List Row) (row plugin set sub : ℕ) (d : Row) → row < length rows
      → row_texts name (drop row rows) ++ subs_from s plugin set (sub + 1)
      ≡ row_line name (get_or rows row d) ++ (row_texts name (drop (row + 1) rows) ++ subs_from s plugin set (sub + 1))
  unfolding row_texts
  row_comes name rows row plugin set sub d below =
      ap (λ xs. row_texts name xs ++ subs_from s plugin set (sub + 1)) (next row rows d below)
      ∙ append_assoc (row_line name (get_or rows row d)) (row_texts name (drop (row + 1) rows)) (subs_from s plugin set (sub + 1))

  pub rows_end : (name : KindName) (rows : List Row) (row plugin set sub : ℕ) → length rows ≤ row
      → row_texts name (drop row rows) ++ subs_from s plugin set (sub + 1) ≡ subs_from s plugin set (sub + 1)
  unfolding row_texts
  rows_end name rows row plugin set sub over =
      ap (λ xs. row_texts name xs ++ subs_from s plugin set (sub + 1)) (drop_all row rows over)

  -- the line of a hart, and those behind it
  pub hart_comes : (hart : ℕ) → hart < s.task.machine.harts
      → harts_from s hart ++ plugins_from s 1 ≡ hart_text s.task s.past hart ++ (harts_from s (hart + 1) ++ plugins_from s 1)
  hart_comes hart below =
      ap (λ xs. xs ++ plugins_from s 1) (each_more _ hart s.task.machine.harts below)
      ∙ append_assoc (hart_text s.task s.past hart) (harts_from s (hart + 1)) (plugins_from s 1)

  -- past the last hart come the plug-ins
  pub harts_end : (hart : ℕ) → s.task.machine.harts ≤ hart → harts_from s hart ++ plugins_from s 1 ≡ sets_from s 1 0
  harts_end hart over =
      ap (λ xs. xs ++ plugins_from s 1) (each_none _ hart s.task.machine.harts over) ∙ plugins_are_sets 1 (omega arith)

-- a subscription that calls a box is one of the set's
pub called_within : (spec : SetSpec) (sub : ℕ) (kind : Kind) → called_by spec sub ≡ Some kind → sub < length spec.subs
called_within spec sub kind calls = by (slice_get spec.subs sub) refl calls
  where
    by : (o : Option Sub) → slice_get spec.subs sub ≡ o → option_and_then (λ s. called_kind s.act) o ≡ Some kind → sub < length spec.subs
    by None is none = cc
    by (Some x) is found = slice_get_within spec.subs sub x is

-- what the subscription at an index calls
pub called_there : (spec : SetSpec) (subs : List Sub) (sub : ℕ) (x : Sub) (kind : Option Kind) → subs ≡ spec.subs → sub < length subs
    → x ≡ get_or subs sub x → kind ≡ called_kind (get_or subs sub x).act → called_by spec sub ≡ kind
called_there spec subs sub x kind are below here calls =
    let there : slice_get spec.subs sub ≡ Some x =
    slice_get_read spec.subs (length subs) sub x (ap length are) below (here ∙ ap (λ xs. get_or xs sub x) are) in
    ap (option_and_then (λ (s : Sub). called_kind s.act)) there ∙ (ap (λ (y : Sub). called_kind y.act) here ∙ sym calls)

-- Each line has text.

pub hart_line_some : (h : ℕ) (group : Option ℤ) (hart : HartState) → 0 < length (hart_line h group hart)
unfolding hart_line
hart_line_some h group hart = omega arith

pub set_line_some : (plugin set : ℕ) (ending : Option How) → 0 < length (set_line plugin set ending)
unfolding set_line
set_line_some plugin set ending = omega arith

pub entry_line_some : (entry sum : ℕ) → 0 < length (entry_line entry sum)
unfolding entry_line
entry_line_some entry sum = omega arith

pub sub_line_some : (sub : ℕ) (name : KindName) → 0 < length (sub_line sub name)
unfolding sub_line
sub_line_some sub name = omega arith

named_some : (name : List ℕ) (number : ℕ) → 0 < length (named_line name number)
unfolding named_line
named_some [] number = omega arith
named_some (c ∷ name) number = omega arith

pub row_line_some : (name : KindName) (row : Row) → 0 < length (row_line name row)
unfolding hot_line mem_line exec_line page_line
row_line_some Counts row = named_some (event_word row.key) row.a
row_line_some Hot row = omega arith
row_line_some Mem row = omega arith
row_line_some Exec row = omega arith
row_line_some Classes row = named_some (class_word row.key) row.a
row_line_some Pages row = omega arith
row_line_some (Own number) row = omega arith
