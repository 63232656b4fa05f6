use Rattle.journal_file.specs.File.{held}
use Rattle.call_inputs.proofs.reading.journal.Goals as goal

-- the file is the one that was read, and tells of another run
pub returns-clause-cases : goal.returns-clause-cases
returns-clause-cases g c = (
  record {
    file = held c.in-Ok-read.file;
    holds = record {
      bytes = c.as_slice.result.now;
      read = rw c.as_slice.ensures.value c.in-Ok.ensures.cases.0;
      holds = c.in-Ok-read.ensures.exact;
    };
    told = c.in-Err-is_of.ensures.head.0;
    differs = c.in-Err-is_of.ensures.head.1;
  },
  c.in-Ok.ensures.cases.1,
)
