use Rattle.std.proofs.Common.{◌≡◌, ◌++◌, length}
use Rattle.report_text.specs.Places.{rest_at, IsPlace}
use Rattle.report_text.specs.Report.{report_of}
use Rattle.report_text.proofs.reports.whole_text.Given as goal

abbrev pub invariant-loop-text : goal.invariant-loop-text
invariant-loop-text g l =
    IsPlace l.fn.state l.lines.place
    × (l.text.items ++ rest_at l.fn.state l.lines.place l.lines.name l.lines.rows.items ≡ report_of l.fn.state.task l.fn.state.past)

abbrev pub decreases-loop-text : goal.decreases-loop-text
decreases-loop-text g l = length (rest_at l.fn.state l.lines.place l.lines.name l.lines.rows.items)
