use Rattle.kept_order.proofs.Gots.{gots_keep_harts_going}
use Rattle.kept_order.proofs.taking.gots_keep_harts_going.Goals as goal

pub returns : goal.returns
returns c = record { law = gots_keep_harts_going }
