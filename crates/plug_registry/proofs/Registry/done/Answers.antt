-- The slot's state alone has changed.
use Rattle.std.proofs.Common.{◌<◌, ◌-◌, ◌∙◌, ap, arith, length}
use Rattle.std.proofs.lemmas.Grind.{common_steps}
use Rattle.flat_model.specs.Registry.{after_done, done_state}
use Rattle.plug_registry.specs.State.{RegistryState}
use Rattle.plug_registry.proofs.Slots.{one_changed}
use Rattle.plug_registry.proofs.Registry.done.Goals as goal

pub returns : goal.returns
returns c =
    let within : c.args.plugin - 1 < length c.self.inside.slots.items = grind (arith, common_steps) in
    one_changed (λ p. record p { state = done_state p.state }) _ _ _ _ _ c.args.plugin _ _ within c.index_mut.ensures.value c.done.ensures
    ∙ ap (λ (k : RegistryState). record k { table = after_done c.args.plugin k.table }) c.self.view_is
