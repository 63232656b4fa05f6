use Rattle.kept_order.proofs.Standing.{sets_keep_widths}
use Rattle.kept_order.proofs.summing.sets_keep_widths.Goals as goal

pub returns : goal.returns
returns c = record { law = sets_keep_widths }
