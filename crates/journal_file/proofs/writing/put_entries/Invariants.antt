use Rattle.journal_file.specs.Spelling.{entry, FitsEntry}
use Rattle.journal_file.proofs.Put.{AreWritten}
use Rattle.journal_file.proofs.writing.put_entries.Given as goal

abbrev pub invariant-loop-each : goal.invariant-loop-each
invariant-loop-each l = AreWritten entry FitsEntry l.initial.out.items l.out.items l.entries l.each-index
