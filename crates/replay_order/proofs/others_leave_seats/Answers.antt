use Rattle.replay_order.proofs.Seats.{others_leave_seats}
use Rattle.replay_order.proofs.others_leave_seats.Goals as goal

pub returns : goal.returns
returns c = record { law = others_leave_seats }
