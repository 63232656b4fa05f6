use Rattle.std.proofs.Common.{◌≡◌, ◌∙◌, ap, map, Vec, Global}
use Rattle.std.proofs.lemmas.Result.{IfOk-weaker}
use Rattle.flat_model.specs.declared.plugins.Row.{Row}
use Rattle.report_text.specs.Merging.{merged}
use Rattle.report_text.proofs.Reporting.{rows_are}
use Rattle.report_text.proofs.lines.rows_of.Goals as goal

pub returns : goal.returns
returns g c = record {
  rows = IfOk-weaker c.merge.result
      (λ rows. rows.items ≡ merged c.args.kind.name (map (λ (t : Vec Row Global). t.items) c.as_slice.result.now)) _
      (λ rows made. rows_are c.args.state.now c.args.plugin c.args.set c.args.sub c.number_of.result c.args.kind
      (map (λ (t : Vec Row Global). t.items) c.in_ok-tallies.tallies.items) rows.items c.number_of.ensures.number c.requires.calls
      c.in_ok-tallies.ensures.rows
      (made ∙ ap (λ xs. merged c.args.kind.name (map (λ (t : Vec Row Global). t.items) xs)) c.as_slice.ensures.value))
      c.merge.ensures.rows;
}
