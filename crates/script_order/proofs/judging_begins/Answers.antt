use Rattle.script_order.proofs.Beginning.{next_is_by_turn, judging_begins}
use Rattle.script_order.proofs.judging_begins.Goals as goal

pub returns-clause-next : goal.returns-clause-next
returns-clause-next c = next_is_by_turn

pub returns-clause-law : goal.returns-clause-law
returns-clause-law c = judging_begins
