use Rattle.kept_order.proofs.Gots.{gots_change_little}
use Rattle.kept_order.proofs.taking.gots_change_little.Goals as goal

pub returns : goal.returns
returns c = record { law = gots_change_little }
