use Rattle.std.proofs.Common.{◌∙◌, refl, map, ap, None}
use Rattle.std.specs.Prelude.{slice_index_or}
use Rattle.run_order.specs.Sets.{as_notice}
use Rattle.host_state.proofs.KeptClosers.{closer_shown}
use Rattle.host_state.proofs.states.HostState.closer.Goals as goal

pub returns : goal.returns
returns g c = record {
  closer = closer_shown (λ x. map as_notice (g.C.Closer.notices x)) c.args.self.now _ c.self.view_is c.self.invariant
      c.self.inside.closers.items refl c.args.plugin c.from.result c.if-plugin-eq0.false c.from.ensures _
      (c.closer_at.ensures.closer ∙ ap (λ xs. slice_index_or xs c.from.result None) c.as_slice.ensures.value);
}
