use Rattle.kept_order.proofs.Seats.{others_leave_runners_alone, left_is_left}
use Rattle.kept_order.proofs.going.others_leave_runners_alone.Goals as goal

pub returns : goal.returns
returns c = record { seated = others_leave_runners_alone; left = left_is_left }
