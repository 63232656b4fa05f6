use Rattle.std.proofs.Common.{◌≡◌, ◌∙◌, ap, sym, map, Vec, Global}
use Rattle.std.proofs.lemmas.Result.{IfOk-weaker}
use Rattle.flat_model.specs.declared.plugins.Row.{Row}
use Rattle.report_text.specs.Merging.{merged}
use Rattle.host_cli.proofs.Sums.{first_rows_are}
use Rattle.host_cli.proofs.summary.first_rows.Goals as goal

pub returns : goal.returns
returns g c = record {
  rows = IfOk-weaker c.merge.result
      (λ rows. rows.items ≡ merged c.in-Some.kind.name (map (λ (t : Vec Row Global). t.items) c.as_slice.result.now)) _
      (λ rows made. first_rows_are c.args.state.now c.in-Some.kind (map (λ (t : Vec Row Global). t.items) c.in_ok-tallies.tallies.items)
      rows.items (sym c.in-Some.is ∙ c.first_called.ensures.kind) c.in_ok-tallies.ensures.rows
      (made ∙ ap (λ xs. merged c.in-Some.kind.name (map (λ (t : Vec Row Global). t.items) xs)) c.as_slice.ensures.value))
      c.merge.ensures.rows;
}
