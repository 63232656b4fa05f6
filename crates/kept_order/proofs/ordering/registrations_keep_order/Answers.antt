use Rattle.kept_order.proofs.Orders.{registrations_keep_order}
use Rattle.kept_order.proofs.ordering.registrations_keep_order.Goals as goal

pub returns : goal.returns
returns c = record { law = registrations_keep_order }
