use Rattle.std.proofs.Common.{arith, ap}
use Rattle.flat_model.specs.Registry.{Plugins}
use Rattle.kept_order.proofs.Withdrawals.{plugins_are_few}
use Rattle.std.proofs.Common.{length}
use Rattle.host_state.proofs.states.HostState.plugin_count.Goals as goal

pub returns-clause-few : goal.returns-clause-few
returns-clause-few g c =
    let order = c.self.invariant.order in
    omega (arith, c.count.ensures, ap (λ (r : Plugins). length r.plugins) order.plugins, plugins_are_few _ _ order.legal)
