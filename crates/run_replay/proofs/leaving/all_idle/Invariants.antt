use Rattle.std.proofs.Common.{◌≡◌, ◌<◌, ℕ, true}
use Rattle.run_rules.specs.Legal.{is_idle}
use Rattle.run_order.specs.InOrder.{task_run}
use Rattle.run_replay.proofs.leaving.all_idle.Given as goal

abbrev pub invariant-loop-no : goal.invariant-loop-no
invariant-loop-no g l = (k : ℕ) → k < l.no → is_idle (task_run l.state.task) l.state.past k ≡ true
