use Rattle.kept_order.proofs.Completions.{closings_keep_order}
use Rattle.kept_order.proofs.closing.closings_keep_order.Goals as goal

pub returns : goal.returns
returns c = record { law = closings_keep_order }
