use Rattle.std.proofs.Common.{◌≡◌, ◌++◌, map, length}
use Rattle.report_text.specs.Merging.{row_of_heat}
use Rattle.report_text.proofs.merging.heat_rows.Given as goal

abbrev pub invariant-loop-heat : goal.invariant-loop-heat
invariant-loop-heat l = l.rows.items ++ map row_of_heat l.heats.keys ≡ map row_of_heat l.initial.heats.keys

abbrev pub decreases-loop-heat : goal.decreases-loop-heat
decreases-loop-heat l = length l.heats.keys
