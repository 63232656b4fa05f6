use Rattle.kept_order.proofs.Takes.{takes_keep_order}
use Rattle.kept_order.proofs.taking.takes_keep_order.Goals as goal

pub returns : goal.returns
returns c = record { law = takes_keep_order }
