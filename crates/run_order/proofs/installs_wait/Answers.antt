use Rattle.run_order.proofs.Installing.{installs_wait}
use Rattle.run_order.proofs.installs_wait.Goals as goal

pub returns : goal.returns
returns c = record { law = installs_wait }
