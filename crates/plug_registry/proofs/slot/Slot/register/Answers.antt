-- The sets before the new one have all ended by a reset.
use Rattle.std.proofs.Common.{◌≡◌, ◌-◌, ◌∙◌, ◌++◌, ◌∷◌, [], List, ap, length, replicate}
use Rattle.flat_model.specs.declared.journals.How.TheVariants as how
use Rattle.flat_model.specs.declared.journals.PlugState.TheVariants.{Live, Idle}
use Rattle.flat_model.specs.declared.plugins.SetSpec.{SetSpec}
use Rattle.flat_model.specs.Registry.{Plugin, with_set}
use Rattle.plug_registry.specs.State.{SlotState}
use Rattle.plug_registry.proofs.Endings.{one_more}
use Rattle.plug_registry.proofs.slot.Slot.register.Goals as goal

pub returns : goal.returns
returns c =
    let old = c.self.inside in
    let made : List SetSpec → Plugin = λ xs. record { state = Live; sets = xs; endings = replicate (length xs - 1) how.Reset; owing = old.owing.items } in
    let idle : old.state ≡ Idle = ap (λ (k : SlotState). k.plugin.state) c.self.view_is ∙ c.requires.idle in
    ap made c.in-Ok.ensures.items
    ∙ ap (λ es. record { state = Live; sets = old.sets.items ++ c.args.spec ∷ []; endings = es; owing = old.owing.items })
    (one_more old.state old.sets.items old.last c.args.spec idle c.self.invariant)
    ∙ ap (λ (k : SlotState). with_set k.plugin c.args.spec) c.self.view_is
