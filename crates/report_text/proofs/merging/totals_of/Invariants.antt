use Rattle.std.proofs.Common.{take}
use Rattle.std.specs.BTreeMap.{IsOrdered}
use Rattle.std.specs.Ordering.{nat_cmp}
use Rattle.report_text.specs.Totals.{IsSummed}
use Rattle.report_text.proofs.merging.totals_of.Given as goal

abbrev pub invariant-loop-row : goal.invariant-loop-row
invariant-loop-row l = IsSummed l.totals (take l.row-index l.rows) × IsOrdered nat_cmp l.totals
