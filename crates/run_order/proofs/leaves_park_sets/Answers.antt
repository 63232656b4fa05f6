use Rattle.run_order.proofs.Leaving.{leaves_park_sets}
use Rattle.run_order.proofs.leaves_park_sets.Goals as goal

pub returns : goal.returns
returns c = record { law = leaves_park_sets }
