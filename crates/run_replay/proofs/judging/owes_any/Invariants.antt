use Rattle.std.proofs.Common.{◌≡◌, ◌≤◌, ℕ, false}
use Rattle.flat_model.specs.Registry.{owes}
use Rattle.run_rules.specs.Guest.{plugins}
use Rattle.run_order.specs.InOrder.{task_run}
use Rattle.run_replay.proofs.judging.owes_any.Given as goal

abbrev pub invariant-loop-place : goal.invariant-loop-place
invariant-loop-place g l =
    (p : ℕ) → 1 ≤ p → p ≤ l.place → owes (plugins (task_run l.state.task) l.state.past) l.no p ≡ false
