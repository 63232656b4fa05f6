use Rattle.std.proofs.Common.{◌∷◌, ◌∙◌, ℕ, ap, subst, sym}
use Rattle.std.specs.List.Sorted.{IsNonDecreasingBy}
use Rattle.flat_model.specs.declared.journals.Item.TheVariants.{Told}
use Rattle.run_rules.specs.Legal.{Legal}
use Rattle.run_order.specs.InOrder.{InHand, Task, task_run}
use Rattle.host_state.specs.State.{StateValue}
use Rattle.run_controls.proofs.Parted.{may_be_done, told_part}
use Rattle.run_controls.proofs.parts.put_back.Goals as goal

pub done-requires-clause-legal : goal.done-requires-clause-legal
done-requires-clause-legal g c =
    let room = c.reserve_hold.ensures.rest in
    let mid = c.reserve_hold.new.self in
    subst (λ (n : ℕ). Legal (task_run mid.task) (Told c.args.who n ∷ mid.past)) (sym (ap (λ (x : InHand). x.plugin) c.closing.view_is))
    (may_be_done c.args.who c.args.state.now mid c.in-Some.closing c.args.hand.now (sym c.in-Some.ensures.value)
    (ap (λ (s : StateValue). s.task) room) (ap (λ (s : StateValue). s.past) room) (sym c.short.ensures.short ∙ c.if-short.false)
    c.requires.caught_up c.requires.no_hart c.task.ensures.order c.requires.in_hand)

pub returns-clause-part : goal.returns-clause-part
returns-clause-part g c =
    let room = c.reserve_hold.ensures.rest in
    let task = ap (λ (s : StateValue). s.task) room in
    told_part c.args.who c.closing.inside.plugin c.args.state.now c.reserve_hold.new.self c.done.new.self
    (sym c.short.ensures.short ∙ c.if-short.false) c.requires.caught_up
    (subst (λ (t : Task). IsNonDecreasingBy (λ x. x.when) t.plan.script) (c.task.ensures.task ∙ task) c.script.ensures.rising)
    (ap (λ (s : StateValue). s.past) room) task c.done.ensures.done (ap (λ (s : StateValue). s.task) c.done.ensures.rest)
