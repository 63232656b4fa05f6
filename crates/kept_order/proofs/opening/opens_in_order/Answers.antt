use Rattle.kept_order.proofs.Openings.{opens_in_order}
use Rattle.kept_order.proofs.opening.opens_in_order.Goals as goal

pub returns : goal.returns
returns c = record { law = opens_in_order }
