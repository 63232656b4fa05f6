use Rattle.run_controls.proofs.Parted.{is_no_hart, order_part}
use Rattle.run_controls.proofs.parts.give_order.Goals as goal

pub order-requires-clause-controller : goal.order-requires-clause-controller
order-requires-clause-controller g c = is_no_hart c.args.state.now c.args.who c.task.ensures.order c.requires.no_hart

pub returns-clause-part : goal.returns-clause-part
returns-clause-part g c =
    order_part c.args.who c.args.order c.args.state.now c.order.new.self c.order.result c.order.ensures.ordered c.order.ensures.refused
    c.order.ensures.unchanged c.order.ensures.caught_up c.order.ensures.task
