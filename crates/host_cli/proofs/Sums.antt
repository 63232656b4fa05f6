-- The rows that the first subscription of a plug-in tallies, as those of the report.
use Rattle.std.proofs.Common.{◌≡◌, ◌∙◌, ◌-◌, List, map, Some, refl, sym, ap}
use Rattle.flat_model.specs.declared.plugins.Kind.{Kind}
use Rattle.flat_model.specs.declared.plugins.Row.{Row}
use Rattle.run_rules.specs.Heard.{heard}
use Rattle.run_order.specs.InOrder.{task_run}
use Rattle.run_order.specs.Sets.{harts_of}
use Rattle.host_state.specs.Registered.{registered, called_by, rows_if}
use Rattle.host_state.specs.State.{StateValue}
use Rattle.report_text.specs.Merging.{merged}
use Rattle.report_text.proofs.Reporting.{rows_are}
use Rattle.host_cli.specs.Summary.{first_rows, first_called}

pub first_rows_are : (s : StateValue) (kind : Kind) (lists : List (List Row)) (made : List Row) → Some kind ≡ first_called s.registry.table
    → lists ≡ map (λ h. rows_if (called_by (registered s 1 (1 - 1)) 0) (heard (task_run s.task) 1 (1 - 1) 0 h s.past))
    (harts_of (task_run s.task))
    → made ≡ merged kind.name lists → made ≡ first_rows (task_run s.task) s.past (first_called s.registry.table)
first_rows_are s kind lists made is are merges =
    rows_are s 1 0 0 1 kind lists made refl (sym is) are merges ∙ ap (first_rows (task_run s.task) s.past) is
