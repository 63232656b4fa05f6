use Rattle.std.proofs.Common.{◌≡◌, ◌∙◌, ℕ, map}
use Rattle.std.proofs.lemmas.Result.{IfOk-weaker}
use Rattle.flat_model.specs.declared.plugins.Row.{Row}
use Rattle.report_text.proofs.Summing.{sums_by_key}
use Rattle.report_text.proofs.merging.by_key.Goals as goal

pub returns : goal.returns
returns c = record {
  rows = IfOk-weaker c.sums.result (λ sums. sums.items ≡ map (λ (e : ℕ × Row). e.1) c.in_ok-totals.totals.entries) _
      (λ sums made. made ∙ sums_by_key c.in_ok-totals.totals c.args.rows.now c.in_ok-totals.ensures.ordered c.in_ok-totals.ensures.summed)
      c.sums.ensures.rows;
}
