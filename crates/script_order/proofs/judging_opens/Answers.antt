use Rattle.script_order.proofs.Beginning.{judging_opens}
use Rattle.script_order.proofs.judging_opens.Goals as goal

pub returns : goal.returns
returns c = record { law = judging_opens }
