use Rattle.std.proofs.Common.{◌≡◌, ◌+◌, length, take}
use Rattle.std.specs.List.{flat_map}
use Rattle.journal_file.specs.Spelling.{entry}
use Rattle.journal_file.proofs.writing.file_size.Given as goal

abbrev pub invariant-loop-each : goal.invariant-loop-each
invariant-loop-each l = l.size ≡ length (flat_map entry (take l.each-index l.entries)) + 26
