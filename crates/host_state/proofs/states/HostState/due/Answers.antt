use Rattle.std.proofs.Common.{refl, map}
use Rattle.run_order.specs.Sets.{as_notice}
use Rattle.host_state.proofs.Outgoing.{due_found}
use Rattle.host_state.proofs.states.HostState.due.Goals as goal

pub returns : goal.returns
returns g c = record {
  due = due_found (λ a. map as_notice (g.C.Closer.notices a)) c.args.self.now _ c.self.view_is c.self.invariant c.as_slice.result.now
      c.self.inside.closers.items c.as_slice.ensures.value refl c.least_ready.result c.least_ready.ensures.least;
}
