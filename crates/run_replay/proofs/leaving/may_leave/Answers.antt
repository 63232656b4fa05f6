use Rattle.std.proofs.Common.{◌≡◌, ◌+◌, ◌<◌, ◌∷◌, ◌∙◌, ℕ, true, refl, sym, ap, subst, arith, length, List, Option}
use Rattle.run_order.specs.InOrder.{task_run}
use Rattle.run_replay.proofs.Leaves.{owing_stays, asking_stays, leaves_finished}
use Rattle.run_replay.proofs.leaving.may_leave.Goals as goal

pub returns-then-owes_any : goal.returns-then-owes_any
returns-then-owes_any g c =
    let s = c.args.state.now in
    record {
      may = owing_stays (task_run s.task) c.args.no s.past c.requires.berth.sits.there c.requires.caught_up (sym
          c.if-owes_any.ensures.owes);
    }

pub returns-then-not-asks_nothing : goal.returns-then-not-asks_nothing
returns-then-not-asks_nothing g c =
    let s = c.args.state.now in
    record {
      may = asking_stays (task_run s.task) c.args.no s.past c.requires.berth.sits.there c.requires.caught_up
          (sym c.if-not-asks_nothing.ensures.quiet);
    }

pub returns : goal.returns
returns g c =
    let s = c.args.state.now in
    record {
      may = c.is_finished.ensures.finished
          ∙ leaves_finished (task_run s.task) c.args.no s.past c.requires.berth.sits.there c.requires.caught_up
          (sym c.if-owes_any.ensures.owes) (sym c.if-not-asks_nothing.ensures.quiet);
    }
