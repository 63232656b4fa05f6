use Rattle.std.proofs.Common.{length, ap, arith}
use Rattle.flat_model.specs.Registry.{Plugins}
use Rattle.plug_registry.specs.State.{RegistryState}
use Rattle.run_replay.proofs.Judged.{few_plugins}
use Rattle.run_replay.proofs.judging.plugin_count.Goals as goal

pub returns-clause-few : goal.returns-clause-few
returns-clause-few g c =
    let order = c.task.ensures.order in
    let same = ap (λ (r : Plugins). length r.plugins) order.plugins in
    let few = few_plugins c.args.state.now order in
    omega (arith, same, few, c.count.ensures, ap (λ (r : RegistryState). length r.table.plugins) c.registry.ensures.registry)
