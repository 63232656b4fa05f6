use Rattle.kept_order.proofs.Arrivals.{arrivals_stay}
use Rattle.kept_order.proofs.arriving.arrivals_stay.Goals as goal

pub returns : goal.returns
returns c = record { law = arrivals_stay }
