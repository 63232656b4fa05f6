use Rattle.std.proofs.Common.{◌≡◌}
use Rattle.report_text.specs.Places.{subs_from}
use Rattle.report_text.proofs.lines.find_call.Given as goal

abbrev pub invariant-loop-sub : goal.invariant-loop-sub
invariant-loop-sub g l = subs_from l.fn.state l.plugin l.set l.from ≡ subs_from l.fn.state l.plugin l.set l.sub
