use Rattle.std.proofs.Common.{◌-◌, length}
use Rattle.flat_model.specs.Log.{log}
use Rattle.lock_step.specs.Tellings.{all_told}
use Rattle.lock_step.proofs.Judging.{Passes}
use Rattle.lock_step.proofs.comparing.next_of.Given as goal

abbrev pub invariant-loop-event : goal.invariant-loop-event
invariant-loop-event l = Passes l.hart l.fn.walk l.walk

abbrev pub decreases-loop-event : goal.decreases-loop-event
decreases-loop-event l = length (all_told l.walk.machine l.walk.mode (log l.walk.entries)) - length l.walk.given
