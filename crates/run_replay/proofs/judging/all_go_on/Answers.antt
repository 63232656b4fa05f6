use Rattle.std.proofs.Common.{◌≡◌, ◌+◌, ◌-◌, ◌&&◌, ◌∙◌, ℕ, length, nat_lt, ap, sym, arith}
use Rattle.run_rules.specs.Guest.{plugins}
use Rattle.run_rules.specs.Legal.{goes_on_in_time}
use Rattle.run_order.specs.InOrder.{task_run}
use Rattle.kept_order.proofs.Ranges.{all_of}
use Rattle.run_replay.proofs.Numbers.{not_all, one_more}
use Rattle.run_replay.proofs.judging.all_go_on.Goals as goal

pub returns-then-not-lets_go_on : goal.returns-then-not-lets_go_on
returns-then-not-lets_go_on g c =
    let s = c.args.state.now in
    let r = plugins (task_run s.task) s.past in
    record {
      goes = sym (not_all (goes_on_in_time (task_run s.task) c.args.no s.past) 1 (length r.plugins) (c.loop-place.place + 1)
          (omega arith) (omega (arith, c.loop-place-test.true, c.loop-place.auto.place-end, c.plugin_count-place-end.ensures.count))
          (sym c.if-not-lets_go_on.ensures.goes));
    }

pub loop-place-preserved : goal.loop-place-preserved
loop-place-preserved g c =
    let s = c.args.state.now in
    one_more (goes_on_in_time (task_run s.task) c.args.no s.past) c.loop-place.place c.loop-place.invariant
    (sym c.if-not-lets_go_on.ensures.goes)

pub returns : goal.returns
returns g c =
    let s = c.args.state.now in
    let r = plugins (task_run s.task) s.past in
    record {
      goes = sym (all_of (goes_on_in_time (task_run s.task) c.args.no s.past) 1 (length r.plugins) (λ p one most. c.loop-place.invariant p
          one (omega (arith, most, c.loop-place-test.false, c.loop-place.auto.place-end, c.plugin_count-place-end.ensures.count))));
    }
