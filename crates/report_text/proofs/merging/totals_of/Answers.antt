use Rattle.report_text.proofs.Summing.{summed_none, summed_more}
use Rattle.report_text.proofs.merging.totals_of.Goals as goal

pub loop-row-init : goal.loop-row-init
loop-row-init c = (summed_none c.new-totals.result c.new-totals.ensures.empty, c.new-totals.ensures.ordered)

pub loop-row-preserved : goal.loop-row-preserved
loop-row-preserved c = (
  summed_more c.loop-row.totals c.add.new.totals c.args.rows.now c.loop-row.row-index _ c.loop-row-test.true
      c.in_ok-add.ensures.added c.in_ok-add.ensures.keys c.loop-row.invariant.0,
  c.in_ok-add.ensures.ordered,
)
