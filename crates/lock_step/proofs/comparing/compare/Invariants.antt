use Rattle.std.proofs.Common.{◌-◌, length}
use Rattle.flat_model.specs.Log.{log}
use Rattle.lock_step.specs.Tellings.{all_told}
use Rattle.lock_step.proofs.Judging.{Beside}
use Rattle.lock_step.proofs.comparing.compare.Given as goal

abbrev pub invariant-both : goal.invariant-both
invariant-both l = Beside l.hart l.index l.initial.one l.initial.other l.one l.other

abbrev pub decreases-both : goal.decreases-both
decreases-both l = length (all_told l.one.machine l.one.mode (log l.one.entries)) - length l.one.given
