use Rattle.std.proofs.Common.{◌≡◌, ◌≤◌, ℕ, true}
use Rattle.flat_model.specs.Asks.{stays}
use Rattle.run_rules.specs.Heard.{waiting}
use Rattle.run_order.specs.InOrder.{task_run}
use Rattle.run_replay.proofs.judging.asks_nothing.Given as goal

abbrev pub invariant-loop-place : goal.invariant-loop-place
invariant-loop-place g l =
    (p : ℕ) → 1 ≤ p → p ≤ l.place → stays (waiting (task_run l.state.task) p l.no l.state.past) ≡ true
