use Rattle.std.proofs.Common.{◌∙◌, ap}
use Rattle.run_replay.proofs.Orders.{no_hart_gives, no_hart_may}
use Rattle.run_replay.proofs.ordering.order_by.Goals as goal

pub returns-then-party-harts : goal.returns-then-party-harts
returns-then-party-harts g c = record {
  judged = no_hart_may c.args.state.now c.args.party c.harts.result c.task.ensures.order
      (c.harts.ensures.harts ∙ ap (λ t. t.machine.harts) c.task.ensures.task) c.args.order.now c.if-party-harts.true;
}

pub order-ordered-requires-clause-controller : goal.order-ordered-requires-clause-controller
order-ordered-requires-clause-controller g c =
    no_hart_gives c.args.state.now c.args.party c.harts.result c.task.ensures.order
    (c.harts.ensures.harts ∙ ap (λ t. t.machine.harts) c.task.ensures.task) c.if-party-harts.false
