use Rattle.std.proofs.Common.{arith, refl}
use Rattle.host_state.proofs.Finishing.{none_closes}
use Rattle.host_state.proofs.wholeness.have_closed.Goals as goal

pub returns : goal.returns
returns c = record {
  closed = (
    (λ yes. none_closes c.args.registry.now.table.plugins (λ k below. c.loop-place.invariant k (omega arith))),
    (λ none. refl),
  );
}
