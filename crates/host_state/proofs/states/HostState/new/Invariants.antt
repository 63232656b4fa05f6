use Rattle.host_state.specs.Starting.{HasStarted}
use Rattle.host_state.proofs.states.HostState.new.Given as goal

abbrev pub invariant-loop-i : goal.invariant-loop-i
invariant-loop-i g l =
    HasStarted (record {
      machine = record { image = l.fn.image.value; harts = l.fn.harts; limit = l.fn.limit };
      mode = l.fn.mode;
      plan = l.fn.plan;
    }) l.i l.state
