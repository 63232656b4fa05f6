use Rattle.std.proofs.Common.{◌≡◌, ◌-◌, length}
use Rattle.lock_step.specs.Positions.{so_far, steps_alone, IsPlace}
use Rattle.lock_step.proofs.seeking.seek.Given as goal

abbrev pub invariant-loop-next : goal.invariant-loop-next
invariant-loop-next l = record {
  at : IsPlace l.entries l.place l.made;
  same : steps_alone (so_far l.entries l.place l.made) ≡ steps_alone (so_far l.entries l.fn.place l.fn.made);
}

abbrev pub decreases-loop-next : goal.decreases-loop-next
decreases-loop-next l = length l.entries - l.place
