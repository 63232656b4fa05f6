use Rattle.std.proofs.Common.{◌≡◌, ◌∙◌, map, ap}
use Rattle.std.proofs.lemmas.Result.{IfOk-weaker}
use Rattle.report_text.specs.Merging.{hottest_first, row_of_heat}
use Rattle.report_text.proofs.merging.hottest_first.Goals as goal

pub returns : goal.returns
unfolding hottest_first
returns c = record {
  rows = IfOk-weaker c.heat_rows.result (λ rows. rows.items ≡ map row_of_heat c.in_ok-heats.heats.keys) _
      (λ rows made. made ∙ ap (map row_of_heat) c.in_ok-heats.ensures.keys)
      c.heat_rows.ensures.rows;
}
