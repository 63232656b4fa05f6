use Rattle.script_order.proofs.Totals.{journals_tell_totals}
use Rattle.script_order.proofs.journals_tell_totals.Goals as goal

pub returns : goal.returns
returns c = record { law = journals_tell_totals }
