use Rattle.std.proofs.Common.{◌≡◌, ◌-◌, length}
use Rattle.flat_model.specs.Log.{log}
use Rattle.lock_step.specs.Tellings.{all_told}
use Rattle.lock_step.proofs.through.walk_through.Given as goal

abbrev pub invariant-on : goal.invariant-on
invariant-on l = l.walk ≡ record l.initial.walk { given = l.walk.given }

abbrev pub decreases-on : goal.decreases-on
decreases-on l = length (all_told l.walk.machine l.walk.mode (log l.walk.entries)) - length l.walk.given
