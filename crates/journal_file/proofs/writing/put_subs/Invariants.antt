use Rattle.journal_file.specs.Spelling.{sub, FitsSub}
use Rattle.journal_file.proofs.Put.{AreWritten}
use Rattle.journal_file.proofs.writing.put_subs.Given as goal

abbrev pub invariant-loop-each : goal.invariant-loop-each
invariant-loop-each l = AreWritten sub FitsSub l.initial.out.items l.out.items l.subs l.each-index
