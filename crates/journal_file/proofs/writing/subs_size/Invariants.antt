use Rattle.std.proofs.Common.{◌≡◌, ◌≤◌, ◌*◌, length, take}
use Rattle.std.specs.List.{flat_map}
use Rattle.journal_file.specs.Spelling.{sub}
use Rattle.journal_file.proofs.writing.subs_size.Given as goal

abbrev pub invariant-loop-each : goal.invariant-loop-each
invariant-loop-each l = (l.size ≡ length (flat_map sub (take l.each-index l.subs))) × (l.size ≤ 54 * l.each-index)
