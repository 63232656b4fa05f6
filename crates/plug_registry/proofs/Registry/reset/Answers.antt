-- The slot is Resetting, and each hart that has not left owes.
use Rattle.std.proofs.Common.{◌<◌, ◌-◌, ◌∙◌, ap, arith, length}
use Rattle.std.proofs.lemmas.Grind.{common_steps}
use Rattle.flat_model.specs.declared.journals.How.TheVariants as how
use Rattle.flat_model.specs.declared.journals.Order.TheVariants as orders
use Rattle.flat_model.specs.declared.journals.PlugState.TheVariants as states
use Rattle.flat_model.specs.Registry.{after_order, withdrawn}
use Rattle.plug_registry.specs.State.{RegistryState}
use Rattle.plug_registry.proofs.Slots.{one_changed}
use Rattle.plug_registry.proofs.Registry.reset.Goals as goal

pub returns : goal.returns
returns c =
    let within : c.args.plugin - 1 < length c.self.inside.slots.items = grind (arith, common_steps) in
    let gone = c.self.inside.gone.items in
    one_changed (λ p. withdrawn p states.Resetting how.Reset gone) _ _ gone _ _ c.args.plugin _ _ within c.index_mut.ensures.value
    (c.reset.ensures ∙ ap (λ g. record c.index_mut.result.now { plugin = withdrawn c.index_mut.result.now.plugin states.Resetting how.Reset g }) c.deref.ensures.value)
    ∙ ap (λ (k : RegistryState). record k { table = after_order (orders.Reset c.args.plugin) k.table }) c.self.view_is
