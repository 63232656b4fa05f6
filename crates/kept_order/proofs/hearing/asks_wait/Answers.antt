use Rattle.kept_order.proofs.Asking.{asks_wait}
use Rattle.kept_order.proofs.hearing.asks_wait.Goals as goal

pub returns : goal.returns
returns c = record { law = asks_wait }
