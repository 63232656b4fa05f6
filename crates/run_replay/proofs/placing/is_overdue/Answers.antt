use Rattle.std.proofs.Common.{◌≡◌, ◌+◌, ◌<◌, ◌≤◌, ◌∙◌, ℕ, true, false, sym, ap, arith, length}
use Rattle.flat_model.specs.declared.journals.Timed.{Timed}
use Rattle.flat_model.specs.Registry.{Plugins}
use Rattle.plug_registry.specs.State.{RegistryState}
use Rattle.run_rules.specs.Guest.{plugins}
use Rattle.run_rules.specs.Due.{allowed}
use Rattle.run_order.specs.InOrder.{task_run}
use Rattle.run_replay.proofs.Overdue.{turn_within, overdue_at, in_time_then, refused_more}
use Rattle.run_replay.proofs.placing.is_overdue.Goals as goal

pub come_ago-first-requires : goal.come_ago-first-requires
come_ago-first-requires g c = record {
  within = turn_within (task_run c.args.state.now.task) c.args.no c.args.n c.args.state.now.past c.requires.turn;
}

pub come_ago-end-requires : goal.come_ago-end-requires
come_ago-end-requires g c = record {
  within =
      let all = turn_within (task_run c.args.state.now.task) c.args.no c.args.n c.args.state.now.past c.requires.turn in
      omega (arith, all, c.if-n-le-BLOCK_WORDS.false);
}

pub loop-place-init : goal.loop-place-init
loop-place-init g c = record { from = omega arith; refused = λ j t from low at. absurd (omega (arith, from, low)) }

pub line_of-requires : goal.line_of-requires
line_of-requires g c = record { there = omega (arith, c.loop-place-test.true, c.come_ago-end.ensures.come.within) }

pub returns-then-allows-clause-overdue : goal.returns-then-allows-clause-overdue
returns-then-allows-clause-overdue g c = λ on.
    let s = c.args.state.now in
    let was = c.loop-place.invariant in
    let t = c.line_of.result.now in
    let may : allowed (plugins (task_run s.task) s.past) t.order ≡ true =
    sym (c.if-allows.ensures.allows ∙ ap (λ (r : RegistryState). allowed r.table t.order) c.registry.ensures.registry
    ∙ ap (λ (r : Plugins). allowed r t.order) c.task.ensures.order.plugins) in
    overdue_at (task_run s.task) c.args.no c.args.n c.come_ago-first.result c.come_ago-end.result s.past c.come_ago-first.ensures.rising
    c.requires.turn c.if-n-le-BLOCK_WORDS.false c.come_ago-first.ensures.come c.come_ago-end.ensures.come c.loop-place.place t was.from
    (omega (arith, c.loop-place-test.true))
    (record { within = omega (arith, c.loop-place-test.true, c.come_ago-end.ensures.come.within); there = c.line_of.ensures.line }) may
    was.refused

pub loop-place-preserved : goal.loop-place-preserved
loop-place-preserved g c =
    let s = c.args.state.now in
    let was = c.loop-place.invariant in
    let t = c.line_of.result.now in
    let refused : allowed (plugins (task_run s.task) s.past) t.order ≡ false =
    sym (c.if-allows.ensures.allows ∙ ap (λ (r : RegistryState). allowed r.table t.order) c.registry.ensures.registry
    ∙ ap (λ (r : Plugins). allowed r t.order) c.task.ensures.order.plugins) in
    record {
      from = omega (arith, was.from);
      refused = refused_more s.task.plan.script (λ (x : Timed). allowed (plugins (task_run s.task) s.past) x.order) c.come_ago-first.result
          c.loop-place.place t
          (record { within = omega (arith, c.loop-place-test.true, c.come_ago-end.ensures.come.within); there = c.line_of.ensures.line })
          refused was.refused;
    }

pub returns-clause-in_time : goal.returns-clause-in_time
returns-clause-in_time g c = λ off.
    let s = c.args.state.now in
    let was = c.loop-place.invariant in
    in_time_then (task_run s.task) c.args.no c.args.n c.come_ago-first.result c.come_ago-end.result s.past c.come_ago-first.ensures.rising
    c.requires.turn c.if-n-le-BLOCK_WORDS.false c.come_ago-first.ensures.come c.come_ago-end.ensures.come
    (λ j t from low at. was.refused j t from (omega (arith, low, c.loop-place-test.false)) at)
