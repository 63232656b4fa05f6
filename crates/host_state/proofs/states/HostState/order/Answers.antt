use Rattle.std.proofs.Common.{◌∙◌, sym, ap}
use Rattle.flat_model.specs.Registry.{refusal}
use Rattle.host_state.specs.State.{StateValue}
use Rattle.host_state.proofs.Controlling.{control_stands, wants_nothing}
use Rattle.host_state.proofs.states.HostState.order.Goals as goal

pub order_by-requires-clause-legal : goal.order_by-requires-clause-legal
order_by-requires-clause-legal g c =
    control_stands c.args.self.now _ c.args.party c.args.order c.self.view_is c.self.invariant c.requires.caught_up c.requires.controller
    (ap (λ (v : StateValue). refusal v.registry.table c.args.order) (sym c.self.view_is) ∙ sym c.in_default.ensures)

pub returns-clause-caught_up : goal.returns-clause-caught_up
returns-clause-caught_up g c =
    wants_nothing c.args.self.now _ c.order_by.new.self c.args.party c.args.order c.self.view_is c.script.ensures.rising
    c.requires.caught_up c.in_ok-order_by.ensures.ordered c.order_by.ensures.rest
