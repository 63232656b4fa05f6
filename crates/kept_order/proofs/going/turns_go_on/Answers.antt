use Rattle.kept_order.proofs.Rows.{turns_begin, turns_go_on, private_turns_go_on, harts_run}
use Rattle.kept_order.proofs.going.turns_go_on.Goals as goal

pub returns : goal.returns
returns c = record { begin = turns_begin; next = turns_go_on; private = private_turns_go_on; runs = harts_run }
