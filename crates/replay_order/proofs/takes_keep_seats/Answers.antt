use Rattle.replay_order.proofs.Takes.{takes_keep_seats}
use Rattle.replay_order.proofs.takes_keep_seats.Goals as goal

pub returns : goal.returns
returns c = record { law = takes_keep_seats }
