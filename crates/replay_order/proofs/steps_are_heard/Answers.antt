use Rattle.replay_order.proofs.Steps.{steps_are_heard}
use Rattle.replay_order.proofs.steps_are_heard.Goals as goal

pub returns : goal.returns
returns c = record { law = steps_are_heard }
