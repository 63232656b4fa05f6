use Rattle.std.proofs.Common.{◌≡◌, ◌≤◌, ℕ, true}
use Rattle.run_rules.specs.Legal.{goes_on_in_time}
use Rattle.run_order.specs.InOrder.{task_run}
use Rattle.run_replay.proofs.judging.all_go_on.Given as goal

abbrev pub invariant-loop-place : goal.invariant-loop-place
invariant-loop-place g l =
    (p : ℕ) → 1 ≤ p → p ≤ l.place → goes_on_in_time (task_run l.state.task) l.no l.state.past p ≡ true
