-- One hart of the slot owes no more.
use Rattle.std.proofs.Common.{◌<◌, ◌-◌, ◌∙◌, ap, arith, length}
use Rattle.std.proofs.lemmas.Grind.{common_steps}
use Rattle.flat_model.specs.Registry.{after_back, without_hart}
use Rattle.plug_registry.specs.State.{RegistryState}
use Rattle.plug_registry.proofs.Slots.{one_changed}
use Rattle.plug_registry.proofs.Registry.back.Goals as goal

pub returns : goal.returns
returns c =
    let within : c.args.plugin - 1 < length c.self.inside.slots.items = grind (arith, common_steps) in
    one_changed (without_hart c.args.hart) _ _ _ _ _ c.args.plugin _ _ within c.index_mut.ensures.value c.give_back.ensures
    ∙ ap (λ (k : RegistryState). record k { table = after_back c.args.hart c.args.plugin k.table }) c.self.view_is
