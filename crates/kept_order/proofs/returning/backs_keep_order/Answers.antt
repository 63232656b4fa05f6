use Rattle.kept_order.proofs.Backs.{backs_keep_order}
use Rattle.kept_order.proofs.returning.backs_keep_order.Goals as goal

pub returns : goal.returns
returns c = record { law = backs_keep_order }
