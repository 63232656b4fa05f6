-- What a file that was read holds.
use Rattle.journal_file.specs.declared.heads.JournalFile.{JournalFile}
use Rattle.journal_file.specs.Head.{FileState}

abbrev pub held : JournalFile → FileState
held file = record { head = file.head; entries = file.journal.entries }
