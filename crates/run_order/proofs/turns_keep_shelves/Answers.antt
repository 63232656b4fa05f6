use Rattle.run_order.proofs.Shelves.{turns_keep_shelves}
use Rattle.run_order.proofs.turns_keep_shelves.Goals as goal

pub returns : goal.returns
returns c = record { law = turns_keep_shelves }
