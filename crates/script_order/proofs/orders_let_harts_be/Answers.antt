use Rattle.script_order.proofs.Letting.{orders_let_harts_be}
use Rattle.script_order.proofs.orders_let_harts_be.Goals as goal

pub returns : goal.returns
returns c = record { law = orders_let_harts_be }
