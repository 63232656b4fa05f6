use Rattle.kept_order.proofs.Rows.{rows_go_on}
use Rattle.kept_order.proofs.going.rows_go_on.Goals as goal

pub returns : goal.returns
returns c = record { law = rows_go_on }
