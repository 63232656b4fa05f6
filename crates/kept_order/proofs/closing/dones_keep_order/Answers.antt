use Rattle.kept_order.proofs.Dones.{dones_keep_order}
use Rattle.kept_order.proofs.closing.dones_keep_order.Goals as goal

pub returns : goal.returns
returns c = record { law = dones_keep_order }
