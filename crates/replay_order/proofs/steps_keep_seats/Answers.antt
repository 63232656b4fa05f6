use Rattle.replay_order.proofs.Steps.{steps_keep_seats}
use Rattle.replay_order.proofs.steps_keep_seats.Goals as goal

pub returns : goal.returns
returns c = record { law = steps_keep_seats }
