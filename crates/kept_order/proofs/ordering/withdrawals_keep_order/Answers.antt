use Rattle.kept_order.proofs.Orders.{withdrawals_keep_order}
use Rattle.kept_order.proofs.ordering.withdrawals_keep_order.Goals as goal

pub returns : goal.returns
returns c = record { law = withdrawals_keep_order }
