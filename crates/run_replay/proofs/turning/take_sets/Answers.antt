use Rattle.std.proofs.Common.{◌≡◌, ◌+◌, ◌<◌, ℕ, List, ap, sym, subst, refl, arith}
use Rattle.flat_model.specs.declared.plugins.SetSpec.{SetSpec}
use Rattle.host_state.specs.State.{StateValue}
use Rattle.run_replay.specs.Lists.{AreLists}
use Rattle.run_replay.proofs.Lists.{later}
use Rattle.run_replay.proofs.Turned.{took_sets}
use Rattle.run_replay.proofs.turning.take_sets.Goals as goal

pub returns-then-came-clause-berth : goal.returns-then-came-clause-berth
returns-then-came-clause-berth g c =
    let took = c.attach-came.ensures in
    let rises : c.args.berth.now.generation < c.in_ok-next.next = omega (arith, c.in_ok-next.ensures.next) in
    took_sets c.args.no c.args.state.now c.attach-came.new.self c.args.berth.now _ c.requires.berth
    (ap (λ (s : StateValue). s.task) took.rest) took.gots c.task.ensures.order refl took.attached took.specs
    (later c.args.state.now.task.machine.image c.args.berth.now.generation c.in_ok-next.next c.args.berth.now.specs
    c.attach-came.new.specs c.args.berth.now.lists c.requires.berth.cached rises)

pub returns-clause-berth : goal.returns-clause-berth
returns-clause-berth g c =
    let took = c.attach-came.ensures in
    took_sets c.args.no c.args.state.now c.attach-came.new.self c.args.berth.now _ c.requires.berth
    (ap (λ (s : StateValue). s.task) took.rest) took.gots c.task.ensures.order refl took.attached took.specs
    (subst (λ (sets : List (ℕ × SetSpec)). AreLists c.args.state.now.task.machine.image c.args.berth.now.generation sets
    c.args.berth.now.lists) (sym (took.nothing c.if-came.false).1) c.requires.berth.cached)
