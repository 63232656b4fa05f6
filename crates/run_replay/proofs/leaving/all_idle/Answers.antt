use Rattle.std.proofs.Common.{◌≡◌, ◌+◌, ◌<◌, ◌∷◌, ◌∙◌, ℕ, true, refl, sym, ap, subst, arith, length, List, Option}
use Rattle.run_rules.specs.Legal.{is_idle}
use Rattle.run_order.specs.InOrder.{Task, task_run}
use Rattle.kept_order.proofs.Ranges.{all_of}
use Rattle.run_replay.proofs.Numbers.{not_all, one_behind}
use Rattle.run_replay.proofs.leaving.all_idle.Goals as goal

pub returns-then-not-idles : goal.returns-then-not-idles
returns-then-not-idles g c =
    let s = c.args.state.now in
    record {
      idle = sym (not_all (is_idle (task_run s.task) s.past) 0 s.task.machine.harts c.loop-no.no (omega arith)
          (omega (
            arith,
            c.loop-no-test.true,
            c.loop-no.auto.no-end,
            c.harts-no-end.ensures.harts,
            ap (λ (t : Task). t.machine.harts) c.task.ensures.task,
          )) (sym c.if-not-idles.ensures.idle));
    }

pub loop-no-preserved : goal.loop-no-preserved
loop-no-preserved g c =
    let s = c.args.state.now in
    one_behind (is_idle (task_run s.task) s.past) c.loop-no.no c.loop-no.invariant (sym c.if-not-idles.ensures.idle)

pub returns : goal.returns
returns g c =
    let s = c.args.state.now in
    record {
      idle = sym (all_of (is_idle (task_run s.task) s.past) 0 s.task.machine.harts (λ k low high. c.loop-no.invariant k
          (omega (
            arith,
            high,
            c.loop-no-test.false,
            c.loop-no.auto.no-end,
            c.harts-no-end.ensures.harts,
            ap (λ (t : Task). t.machine.harts) c.task.ensures.task,
          ))));
    }
