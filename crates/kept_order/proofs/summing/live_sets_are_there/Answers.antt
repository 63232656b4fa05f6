use Rattle.kept_order.proofs.Standing.{live_sets_are_there}
use Rattle.kept_order.proofs.summing.live_sets_are_there.Goals as goal

pub returns : goal.returns
returns c = record { law = live_sets_are_there }
