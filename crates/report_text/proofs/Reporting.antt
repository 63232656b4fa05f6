-- A report from its first line to its last.
use Rattle.std.proofs.Common.{◌≡◌, ◌∙◌, ◌+◌, ◌-◌, ℕ, Bool, List, [], ◌++◌, map, Some, refl, sym, ap, arith, append-nil}
use Rattle.flat_model.specs.declared.plugins.KindName.{KindName}
use Rattle.flat_model.specs.declared.plugins.Row.{Row}
use Rattle.flat_model.specs.Columns.{entry_sum}
use Rattle.flat_model.specs.declared.plugins.Kind.{Kind}
use Rattle.run_rules.specs.Heard.{heard, column}
use Rattle.run_order.specs.InOrder.{InOrder, task_run}
use Rattle.run_order.specs.Sets.{harts_of}
use Rattle.host_state.specs.Registered.{registered, called_by, rows_if}
use Rattle.host_state.specs.State.{StateValue, stored_of}
use Rattle.report_text.specs.declared.lines.Place.TheVariants.{Harts}
use Rattle.report_text.specs.Places.{rest_at, Goes}
use Rattle.report_text.specs.Report.{report_of, texts_of, merged_rows, set_in}
use Rattle.report_text.specs.Merging.{merged}

-- before the first line all of it is to come
pub report_starts : (s : StateValue) → InOrder s.task (stored_of s) → (name : KindName) (rows : List Row)
    → rest_at s (Harts 0) name rows ≡ report_of s.task s.past
unfolding report_of
report_starts s order name rows = ap (texts_of s.task s.past) order.plugins

-- a line more
pub report_goes : (report due before after rest : List ℕ) (more : Bool) → before ++ due ≡ report → Goes due before after rest more
    → after ++ rest ≡ report
report_goes report due before after rest more so_far goes = goes.text ∙ so_far

-- after the last there is nothing to come
pub report_ends : (report text rest : List ℕ) → text ++ rest ≡ report → rest ≡ [] → text ≡ report
report_ends report text rest is none = sym (append-nil text) ∙ (ap (λ xs. text ++ xs) (sym none) ∙ is)

-- the merged rows of what the state tallies
pub rows_are : (s : StateValue) (plugin set sub number : ℕ) (kind : Kind) (lists : List (List Row)) (made : List Row) → number ≡ set + 1
    → called_by (set_in s.registry.table plugin set) sub ≡ Some kind
    → lists ≡ map (λ h. rows_if (called_by (registered s plugin (number - 1)) sub)
    (heard (task_run s.task) plugin (number - 1) sub h s.past)) (harts_of (task_run s.task))
    → made ≡ merged kind.name lists → made ≡ merged_rows (task_run s.task) s.past plugin set sub kind
unfolding merged_rows
rows_are s plugin set sub number kind lists made is calls are merges =
    let run = task_run s.task in
    let one : number - 1 ≡ set = omega (arith, is) in
    merges
    ∙ ap (merged kind.name)
    (are
    ∙ (ap (λ n. map (λ h. rows_if (called_by (registered s plugin n) sub) (heard run plugin n sub h s.past)) (harts_of run)) one
    ∙ ap (λ k. map (λ h. rows_if k (heard run plugin set sub h s.past)) (harts_of run)) calls))

-- the sum of an entry, by the set's number
pub sum_is : (s : StateValue) (plugin set entry number sum : ℕ) → number ≡ set + 1
    → sum ≡ entry_sum entry (map (λ h. column (task_run s.task) plugin (number - 1) h s.past) (harts_of (task_run s.task)))
    → sum ≡ entry_sum entry (map (λ h. column (task_run s.task) plugin set h s.past) (harts_of (task_run s.task)))
sum_is s plugin set entry number sum is made =
    let one : number - 1 ≡ set = omega (arith, is) in
    made ∙ ap (λ n. entry_sum entry (map (λ h. column (task_run s.task) plugin n h s.past) (harts_of (task_run s.task)))) one
