use Rattle.lock_step.proofs.Walking as walking
use Rattle.lock_step.proofs.laws.stuck_is_no_run.Goals as goal

pub returns : goal.returns
returns c = record { law = walking.stuck_is_no_run }
