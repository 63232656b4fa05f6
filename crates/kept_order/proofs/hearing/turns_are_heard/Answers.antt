use Rattle.kept_order.proofs.HeardTurns.{turns_are_heard}
use Rattle.kept_order.proofs.hearing.turns_are_heard.Goals as goal

pub returns : goal.returns
returns c = record { law = turns_are_heard }
