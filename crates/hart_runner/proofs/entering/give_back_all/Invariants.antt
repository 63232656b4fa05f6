use Rattle.std.proofs.Common.{◌≡◌, true, false}
use Rattle.hart_runner.specs.Seats.{HasWritten}
use Rattle.hart_runner.proofs.GivingBacks.{ReturnsSoFar}
use Rattle.hart_runner.proofs.entering.give_back_all.Given as goal

abbrev pub invariant-loop-place : goal.invariant-loop-place
invariant-loop-place g l = record {
  so_far : ReturnsSoFar l.no l.place l.fn.state l.state l.attached l.specs;
  wrote : l.some ≡ true → HasWritten l.fn.state.past l.state.past;
  nothing : l.some ≡ false → (l.state ≡ l.fn.state) × (l.attached ≡ l.fn.attached) × (l.specs ≡ l.fn.specs);
}
