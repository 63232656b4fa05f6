use Rattle.kept_order.proofs.Backs.{backs_take_sets}
use Rattle.kept_order.proofs.returning.backs_take_sets.Goals as goal

pub returns : goal.returns
returns c = record { law = backs_take_sets }
