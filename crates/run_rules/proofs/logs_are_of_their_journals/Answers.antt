use Rattle.run_rules.proofs.Journals.{logs_are_of_their_journals}
use Rattle.run_rules.proofs.logs_are_of_their_journals.Goals as goal

pub returns : goal.returns
returns c = record { law = logs_are_of_their_journals }
