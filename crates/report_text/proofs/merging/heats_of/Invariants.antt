use Rattle.std.proofs.Common.{◌≡◌, [], map, take}
use Rattle.std.specs.Prelude.{fold}
use Rattle.std.specs.BTreeSet.{insert_key}
use Rattle.report_text.specs.Merging.{heat_of, heat_cmp}
use Rattle.report_text.proofs.merging.heats_of.Given as goal

abbrev pub invariant-loop-row : goal.invariant-loop-row
invariant-loop-row l = l.heats.keys ≡ fold (insert_key heat_cmp) [] (map heat_of (take l.row-index l.rows))
