use Rattle.std.proofs.Common.{◌≡◌, ◌<◌, ◌≤◌, ℕ, false}
use Rattle.flat_model.specs.declared.journals.Timed.{Timed}
use Rattle.run_rules.specs.Guest.{plugins}
use Rattle.run_rules.specs.Due.{allowed}
use Rattle.run_order.specs.InOrder.{task_run}
use Rattle.script_order.specs.Judging.{IsLine}
use Rattle.run_replay.proofs.placing.is_overdue.Given as goal

abbrev pub invariant-loop-place : goal.invariant-loop-place
invariant-loop-place g l = record {
  from : l.first ≤ l.place;
  refused : (j : ℕ) (t : Timed) → l.first ≤ j → j < l.place → IsLine l.state.task.plan.script j t
      → allowed (plugins (task_run l.state.task) l.state.past) t.order ≡ false;
}
