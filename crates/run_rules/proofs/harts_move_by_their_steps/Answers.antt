use Rattle.run_rules.proofs.Harts.{harts_move_by_their_steps}
use Rattle.run_rules.proofs.harts_move_by_their_steps.Goals as goal

pub returns : goal.returns
returns c = record { law = harts_move_by_their_steps }
