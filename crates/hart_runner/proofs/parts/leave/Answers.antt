use Rattle.std.proofs.Common.{ap, subst}
use Rattle.std.specs.List.Sorted.{IsNonDecreasingBy}
use Rattle.run_order.specs.InOrder.{Task}
use Rattle.host_state.specs.State.{StateValue}
use Rattle.hart_runner.proofs.Held.{left_caught_up}
use Rattle.hart_runner.proofs.parts.leave.Goals as goal

pub returns-clause-caught_up : goal.returns-clause-caught_up
returns-clause-caught_up g c =
    left_caught_up c.args.seat.no c.args.state.now c.leave.new.self c.args.seat.hart c.args.seat.attached c.requires.may
    (subst (λ (t : Task). IsNonDecreasingBy (λ t. t.when) t.plan.script) c.task.ensures.task c.script.ensures.rising)
    c.leave.ensures.left (ap (λ (s : StateValue). s.task) c.leave.ensures.rest)
