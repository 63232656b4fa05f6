use Rattle.std.proofs.Common.{◌≡◌, ◌+◌, ◌<◌, ◌∷◌, ◌∙◌, ℕ, true, refl, sym, ap, subst, arith, length, List, Option}
use Rattle.flat_model.specs.Registry.{Plugins, owes}
use Rattle.plug_registry.specs.State.{RegistryState}
use Rattle.run_order.specs.InOrder.{task_run}
use Rattle.run_replay.proofs.GivenBack.{unowed_stays, owed_by_asks}
use Rattle.run_replay.proofs.backing.may_give_back.Goals as goal

pub returns-then-not-outstanding : goal.returns-then-not-outstanding
returns-then-not-outstanding g c =
    let s = c.args.state.now in
    let owed = ap (λ (x : Plugins). owes x c.args.no c.args.plugin) (sym c.task.ensures.order.plugins)
    ∙ sym (ap (λ (x : RegistryState). owes x.table c.args.no c.args.plugin) c.registry.ensures.registry)
    ∙ sym c.if-not-outstanding.ensures in
    record { may = unowed_stays (task_run s.task) c.args.no c.args.plugin s.past owed }

pub returns : goal.returns
returns g c =
    let s = c.args.state.now in
    let owed = ap (λ (x : Plugins). owes x c.args.no c.args.plugin) (sym c.task.ensures.order.plugins)
    ∙ sym (ap (λ (x : RegistryState). owes x.table c.args.no c.args.plugin) c.registry.ensures.registry)
    ∙ sym c.if-not-outstanding.ensures in
    record {
      may = c.asks_nothing.ensures.quiet ∙ owed_by_asks (task_run s.task) c.args.no c.args.plugin s.past c.requires.caught_up owed;
    }
