use Rattle.std.proofs.Common.{refl}
use Rattle.host_state.proofs.Finishing.{whole_where, not_whole}
use Rattle.host_state.proofs.states.HostState.whole.Goals as goal

pub returns-then-have_left : goal.returns-then-have_left
returns-then-have_left g c = record {
  whole = λ long. whole_where c.args.self.now _ c.self.view_is c.self.invariant c.requires.caught_up c.harts.result
      c.harts.ensures.harts long (c.if-have_left.ensures.left.0 refl) c.have_closed.result c.have_closed.ensures.closed;
}

pub returns-else-have_left : goal.returns-else-have_left
returns-else-have_left g c = record {
  whole = λ long. not_whole c.args.self.now _ c.self.view_is c.self.invariant c.requires.caught_up c.harts.result c.harts.ensures.harts long
      c.have_left.result c.if-have_left.false c.have_left.ensures.left;
}
