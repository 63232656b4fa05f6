use Rattle.host_state.proofs.Asked.{may_ask, unrefused, recorded, ordered, behind, behind_now}
use Rattle.host_state.proofs.states.HostState.withdraw.Goals as goal

pub apply-requires-clause-allowed : goal.apply-requires-clause-allowed
apply-requires-clause-allowed g c =
    unrefused _ c.args.no c.args.plugin c.args.how c.withdrawal.result c.self.invariant
    (may_ask _ c.args.self.now c.args.no c.args.plugin c.args.how c.self.view_is c.requires.least c.requires.asked c.requires.caught_up)
    c.withdrawal.ensures.order

pub invariant_of-self : goal.invariant_of-self
invariant_of-self g c =
    ordered _ c.args.no c.args.plugin c.args.how c.with_item-self-inside.result.items c.push.new.self c.apply.new.self c.self.invariant
    (may_ask _ c.args.self.now c.args.no c.args.plugin c.args.how c.self.view_is c.requires.least c.requires.asked c.requires.caught_up)
    (recorded _ c.args.no c.args.plugin c.args.how c.with_item-self-inside.result.items c.push.new.self c.apply.new.self
    c.withdrawal.result c.withdrawal-2.result c.withdrawal-3.result c.withdrawal.ensures.order c.withdrawal-2.ensures.order
    c.withdrawal-3.ensures.order c.apply.ensures.table c.push.ensures.appends c.with_item-self-inside.ensures.item)

pub returns-clause-unmoved : goal.returns-clause-unmoved
returns-clause-unmoved g c =
    (behind_now _ c.args.self.now c.args.no c.args.plugin c.with_item-self-inside.result.items c.self.view_is
    (behind _ c.args.self.now c.args.no c.args.plugin c.args.how c.with_item-self-inside.result.items c.withdrawal-3.result
    c.self.invariant c.self.view_is c.requires.least c.requires.asked c.requires.caught_up c.script.ensures.rising
    c.withdrawal-3.ensures.order c.with_item-self-inside.ensures.item)).unmoved

pub returns-clause-quieted : goal.returns-clause-quieted
returns-clause-quieted g c =
    (behind_now _ c.args.self.now c.args.no c.args.plugin c.with_item-self-inside.result.items c.self.view_is
    (behind _ c.args.self.now c.args.no c.args.plugin c.args.how c.with_item-self-inside.result.items c.withdrawal-3.result
    c.self.invariant c.self.view_is c.requires.least c.requires.asked c.requires.caught_up c.script.ensures.rising
    c.withdrawal-3.ensures.order c.with_item-self-inside.ensures.item)).quieted

pub returns-clause-caught_up : goal.returns-clause-caught_up
returns-clause-caught_up g c =
    (behind _ c.args.self.now c.args.no c.args.plugin c.args.how c.with_item-self-inside.result.items c.withdrawal-3.result
    c.self.invariant c.self.view_is c.requires.least c.requires.asked c.requires.caught_up c.script.ensures.rising
    c.withdrawal-3.ensures.order c.with_item-self-inside.ensures.item).none
