use Rattle.std.proofs.Common.{◌∷◌, ◌∙◌, ap}
use Rattle.flat_model.specs.declared.journals.Item.TheVariants.{Ordered}
use Rattle.flat_model.specs.Log.{log}
use Rattle.flat_model.specs.Registry.{Plugins, after_order}
use Rattle.host_state.proofs.Controlling.{may_control, withdrawn_sound}
use Rattle.host_state.proofs.states.HostState.withdraw_by.Goals as goal

pub invariant_of-self-2 : goal.invariant_of-self-2
invariant_of-self-2 g c =
    withdrawn_sound _ c.args.origin c.args.order c.record_order-self-inside.result.items c.record_order-self-inside.new.journal
    c.record_order-self-inside.new.registry c.self.invariant
    (may_control c.args.self.now _ c.args.origin c.args.order c.self.view_is c.requires.legal c.requires.allowed) c.requires.withdrawal c.record_order-self-inside.ensures.past
    (c.record_order-self-inside.ensures.journal
    ∙ ap (λ entries. Ordered c.args.origin c.args.order ∷ log entries) c.room_for_order.ensures.entries)
    (c.record_order-self-inside.ensures.table ∙ ap (λ (r : Plugins). after_order c.args.order r) c.room_for_order.ensures.table)
