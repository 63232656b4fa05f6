use Rattle.std.proofs.Common.{◌≡◌, ◌+◌, ◌<◌, ◌∷◌, ◌∙◌, ℕ, true, refl, sym, ap, subst, arith, length, List, Option}
use Rattle.std.specs.List.Sorted.{IsNonDecreasingBy}
use Rattle.run_order.specs.InOrder.{Task, task_run}
use Rattle.host_state.specs.State.{StateValue}
use Rattle.run_replay.proofs.GivenBack.{both, least, most, back_berth}
use Rattle.run_replay.proofs.Judged.{few_plugins}
use Rattle.run_replay.proofs.Lists.{later}
use Rattle.run_replay.proofs.backing.give_back_with_room.Goals as goal

pub forget-requires-clause-least : goal.forget-requires-clause-least
forget-requires-clause-least g c =
    let s = c.args.state.now in
    least (task_run s.task) c.args.no c.args.plugin s.past c.requires.may

pub forget-requires-clause-most : goal.forget-requires-clause-most
forget-requires-clause-most g c =
    let s = c.args.state.now in
    omega (arith, most (task_run s.task) c.args.no c.args.plugin s.past c.requires.may, few_plugins s c.task.ensures.order)

pub collect-requires-clause-legal : goal.collect-requires-clause-legal
collect-requires-clause-legal g c =
    let s = c.args.state.now in
    both (task_run s.task) c.args.no c.args.plugin s.past c.task.ensures.order.legal c.requires.may

pub returns-clause-berth : goal.returns-clause-berth
returns-clause-berth g c =
    let s = c.args.state.now in
    let did = c.collect.ensures in
    back_berth c.args.no c.args.plugin s c.collect.new.self c.args.berth.now _ c.requires.berth
    (least (task_run s.task) c.args.no c.args.plugin s.past c.requires.may)
    (subst (λ (t : Task). IsNonDecreasingBy (λ t. t.when) t.plan.script) c.task.ensures.task c.script.ensures.rising)
    (both (task_run s.task) c.args.no c.args.plugin s.past c.task.ensures.order.legal c.requires.may)
    (ap (λ (x : StateValue). x.task) did.rest) did.back refl did.attached did.specs c.forget.ensures.forgotten refl refl
    (later s.task.machine.image c.args.berth.now.generation c.args.generation c.args.berth.now.specs c.collect.new.specs
    c.args.berth.now.lists c.requires.berth.cached c.requires.later)
