use Rattle.std.proofs.Common.{◌≡◌, ◌≤◌, ◌-◌, length}
use Rattle.report_text.specs.Places.{sets_from}
use Rattle.report_text.proofs.lines.find_set.Given as goal

abbrev pub invariant-loop-set : goal.invariant-loop-set
invariant-loop-set g l = (1 ≤ l.plugin) × (sets_from l.fn.state l.fn.plugin l.fn.set ≡ sets_from l.fn.state l.plugin l.set)

abbrev pub decreases-loop-set : goal.decreases-loop-set
decreases-loop-set g l = length l.fn.state.registry.table.plugins - l.plugin
