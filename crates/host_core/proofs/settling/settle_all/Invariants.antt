use Rattle.std.proofs.Common.{◌≡◌}
use Rattle.baton_gate.specs.Logs.{GoesOn}
use Rattle.host_core.specs.Settling.{MaySettle, IsSettledBy}
use Rattle.host_core.proofs.SettledStates.{left_to_settle}
use Rattle.host_core.proofs.settling.settle_all.Given as goal

abbrev pub invariant-loop : goal.invariant-loop
invariant-loop g l = record {
  may : MaySettle l.party l.state;
  task : l.state.task ≡ l.fn.state.task;
  goes_on : GoesOn (IsSettledBy l.party) l.fn.state.past l.state.past;
}

abbrev pub decreases-loop : goal.decreases-loop
decreases-loop g l = left_to_settle l.state
