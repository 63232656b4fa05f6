use Rattle.kept_order.proofs.Arrivals.{takes_arrive}
use Rattle.kept_order.proofs.arriving.takes_arrive.Goals as goal

pub returns : goal.returns
returns c = record { law = takes_arrive }
