use Rattle.kept_order.proofs.Tellings.{ended_sets_are_told}
use Rattle.kept_order.proofs.summing.ended_sets_are_told.Goals as goal

pub returns : goal.returns
returns c = record { law = ended_sets_are_told }
