use Rattle.std.proofs.Common.{◌≡◌, ◌≤◌, ℕ, false}
use Rattle.run_order.specs.InOrder.{task_run}
use Rattle.kept_order.specs.Closing.{is_due}
use Rattle.run_controls.proofs.parts.find_none.Given as goal

abbrev pub invariant-loop-place : goal.invariant-loop-place
invariant-loop-place g l = (p : ℕ) → 1 ≤ p → p ≤ l.place → is_due (task_run l.state.task) p l.state.past ≡ false
