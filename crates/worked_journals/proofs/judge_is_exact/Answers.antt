use Rattle.worked_journals.proofs.Judged.{judges_exactly}
use Rattle.worked_journals.proofs.judge_is_exact.Goals as goal

-- src/lib.rt:8:1
pub returns : goal.returns
returns c = record { law = judges_exactly }
