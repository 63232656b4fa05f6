use Rattle.std.proofs.Common.{◌≡◌, ◌≤◌, ℕ, false}
use Rattle.run_order.specs.InOrder.{task_run}
use Rattle.run_order.specs.Sets.{is_closing_out}
use Rattle.host_core.proofs.settling.have_closers.Given as goal

abbrev pub invariant-loop-place : goal.invariant-loop-place
invariant-loop-place g l = (p : ℕ) → 1 ≤ p → p ≤ l.place → is_closing_out (task_run l.state.task) p l.state.past ≡ false
