use Rattle.std.proofs.Common.{◌≡◌, ◌+◌, ◌-◌, ◌&&◌, ◌∙◌, ℕ, length, nat_lt, ap, sym, arith}
use Rattle.flat_model.specs.Asks.{stays}
use Rattle.run_rules.specs.Guest.{plugins}
use Rattle.run_rules.specs.Heard.{waiting}
use Rattle.run_order.specs.InOrder.{task_run}
use Rattle.kept_order.proofs.Ranges.{all_of}
use Rattle.run_replay.specs.Following.{seating_of}
use Rattle.run_replay.proofs.Numbers.{not_all}
use Rattle.run_replay.proofs.Judged.{noted}
use Rattle.run_replay.proofs.judging.asks_nothing.Goals as goal

pub waiting_ask-requires-clause-noted : goal.waiting_ask-requires-clause-noted
waiting_ask-requires-clause-noted g c =
    noted c.args.state.now c.args.no (c.loop-place.place + 1) (seating_of c.args.berth.now) (omega arith) c.task.ensures.order
    c.requires.sits

pub returns-then-not-stays : goal.returns-then-not-stays
returns-then-not-stays g c =
    let s = c.args.state.now in
    let r = plugins (task_run s.task) s.past in
    record {
      quiet = sym (not_all (λ k. stays (waiting (task_run s.task) k c.args.no s.past)) 1 (length r.plugins) (c.loop-place.place + 1)
          (omega arith) (omega (arith, c.loop-place-test.true, c.loop-place.auto.place-end, c.plugin_count-place-end.ensures.count))
          (sym (ap stays c.waiting_ask.ensures.ask) ∙ sym c.if-not-stays.ensures.stays));
    }

pub returns : goal.returns
returns g c =
    let s = c.args.state.now in
    let r = plugins (task_run s.task) s.past in
    record {
      quiet = sym (all_of (λ k. stays (waiting (task_run s.task) k c.args.no s.past)) 1 (length r.plugins)
          (λ p one most. c.loop-place.invariant p one
          (omega (arith, most, c.loop-place-test.false, c.loop-place.auto.place-end, c.plugin_count-place-end.ensures.count))));
    }
