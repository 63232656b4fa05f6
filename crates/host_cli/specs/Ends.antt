-- How the run or the replay of a task ends, once it is whole: what it prints and writes, and its status.
use Rattle.std.specs.Prelude.{ℕ, List, [], ◌++◌, codes, Option, Some, None}
use Rattle.flat_model.specs.Worlds.{world}
use Rattle.journal_file.specs.Head.{Head}
use Rattle.journal_file.specs.Spelling.{spelling}
use Rattle.run_order.specs.InOrder.{Task}
use Rattle.host_state.specs.State.{StateValue}
use Rattle.report_text.specs.Report.{report_of, status_after}
use Rattle.call_inputs.specs.declared.refusals.Refusal.TheVariants.{OutOfMemory}
use Rattle.call_inputs.specs.Lines.{refusal_line}
use Rattle.host_cli.specs.Files.{FilesAround, AreKept, HasWritten, HasNotWritten}
use Rattle.host_cli.specs.Sinks.{Around, Says, StopsAt, WasTold, IsSilent, Then}

-- what the guest has written
abbrev pub output_of : StateValue → List ℕ
output_of s = (world s.task.machine s.task.mode s.past).shared.output

-- what a journal file says of the run
abbrev pub head_of_task : Task → Head
head_of_task t = record { harts = t.machine.harts; mode = t.mode; limit = t.machine.limit }

-- the file of the run's journal
abbrev pub journal_bytes : StateValue → List ℕ
journal_bytes s = spelling (Some (head_of_task s.task)) s.journal.entries

abbrev pub out_of_memory_line : List ℕ
out_of_memory_line = refusal_line [] OutOfMemory

-- the line of a journal that wasn't written
abbrev pub cannot_write_line : List ℕ → List ℕ
cannot_write_line name = codes "tcg_host: cannot write " ++ (name ++ codes "\n")

-- the end, once the report was put: the journal is written where it has a name, and the status is that of the run
pub data JournalEnds (s : StateValue) (files : FilesAround) (report : Around) : Option (List ℕ) → ℕ → Type 0 where
  unnamed : IsSilent report → AreKept files → JournalEnds s files report None (status_after s.task s.past)
  written : (name : List ℕ) → IsSilent report → HasWritten name (journal_bytes s) files
      → JournalEnds s files report (Some name) (status_after s.task s.past)
  unwritten : (name : List ℕ) → WasTold report (cannot_write_line name) → HasNotWritten name files
      → JournalEnds s files report (Some name) 6
  unmade : (name : List ℕ) → WasTold report out_of_memory_line → AreKept files → JournalEnds s files report (Some name) 7

-- the end of a whole run: its output, then its report, and then its journal. What comes after a put that failed isn't done
pub data RunEnds (s : StateValue) (journal : Option (List ℕ)) (files : FilesAround) (out report : Around) : ℕ → Type 0 where
  reported : (status : ℕ) → Says out (output_of s)
      → Then (λ r. Says r (report_of s.task s.past)) (λ r. JournalEnds s files r journal status) report
      → RunEnds s journal files out report status
  cut_short : StopsAt out (output_of s) → IsSilent report → AreKept files → RunEnds s journal files out report 6
  stopped : Says out (output_of s) → StopsAt report (report_of s.task s.past) → AreKept files → RunEnds s journal files out report 6
  unreported : Says out (output_of s) → WasTold report out_of_memory_line → AreKept files → RunEnds s journal files out report 7
