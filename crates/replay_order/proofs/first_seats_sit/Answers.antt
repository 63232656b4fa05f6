use Rattle.replay_order.proofs.Openings.{first_seats_sit}
use Rattle.replay_order.proofs.first_seats_sit.Goals as goal

pub returns : goal.returns
returns c = record { law = first_seats_sit }
