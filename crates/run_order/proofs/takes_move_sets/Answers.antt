use Rattle.run_order.proofs.Taking.{takes_move_sets}
use Rattle.run_order.proofs.takes_move_sets.Goals as goal

pub returns : goal.returns
returns c = record { law = takes_move_sets }
