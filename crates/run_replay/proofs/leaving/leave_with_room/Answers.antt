use Rattle.std.proofs.Common.{◌≡◌, ◌+◌, ◌<◌, ◌∷◌, ◌∙◌, ℕ, true, refl, sym, ap, subst, arith, length, List, Option}
use Rattle.run_order.specs.InOrder.{task_run}
use Rattle.run_replay.proofs.Leaves.{both}
use Rattle.run_replay.proofs.leaving.leave_with_room.Goals as goal

pub leave-requires-clause-legal : goal.leave-requires-clause-legal
leave-requires-clause-legal g c =
    both (task_run c.args.state.now.task) c.args.no c.args.state.now.past c.task.ensures.order.legal c.requires.may
