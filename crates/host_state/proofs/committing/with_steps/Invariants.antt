use Rattle.std.proofs.Common.{◌≡◌}
use Rattle.flat_model.specs.Log.{steps}
use Rattle.host_state.proofs.committing.with_steps.Given as goal

abbrev pub invariant-loop : goal.invariant-loop
invariant-loop l = l.now.items ≡ steps l.no l.counter l.past.items
