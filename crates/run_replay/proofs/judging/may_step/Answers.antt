use Rattle.std.proofs.Common.{◌≡◌, ◌∙◌, sym}
use Rattle.run_order.specs.InOrder.{task_run}
use Rattle.run_replay.proofs.Judged.{runs_by, stands_still, owes_first, goes_by_asks}
use Rattle.run_replay.proofs.judging.may_step.Goals as goal

pub returns-then-not-runs : goal.returns-then-not-runs
returns-then-not-runs g c =
    let s = c.args.state.now in
    record {
      may = sym (stands_still (task_run s.task) c.args.no c.args.made s.past c.requires.sits.there c.requires.turn c.requires.caught_up
          (sym (runs_by s c.args.no c.args.berth.now.hart c.task.ensures.order c.requires.is) ∙ sym c.if-not-runs.ensures.runs));
    }

pub returns-then-owes_any : goal.returns-then-owes_any
returns-then-owes_any g c =
    let s = c.args.state.now in
    record {
      may = sym (owes_first (task_run s.task) c.args.no c.args.made s.past c.requires.sits.there c.requires.turn c.requires.caught_up
          (sym c.if-owes_any.ensures.owes));
    }

pub returns : goal.returns
returns g c =
    let s = c.args.state.now in
    record {
      may = c.all_go_on.ensures.goes ∙ goes_by_asks (task_run s.task) c.args.no c.args.made s.past c.requires.sits.there c.requires.turn c.requires.caught_up
          (sym (runs_by s c.args.no c.args.berth.now.hart c.task.ensures.order c.requires.is) ∙ sym c.if-not-runs.ensures.runs)
          (sym c.if-owes_any.ensures.owes);
    }
