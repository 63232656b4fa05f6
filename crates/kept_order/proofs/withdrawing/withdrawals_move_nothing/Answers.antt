use Rattle.kept_order.proofs.Withdrawals.{withdrawals_move_nothing}
use Rattle.kept_order.proofs.withdrawing.withdrawals_move_nothing.Goals as goal

pub returns : goal.returns
returns c = record { law = withdrawals_move_nothing }
