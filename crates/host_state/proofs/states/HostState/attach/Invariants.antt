use Rattle.std.proofs.Common.{◌≡◌, ◌≤◌, ℕ, false}
use Rattle.run_rules.specs.Places.{may_get}
use Rattle.run_order.specs.InOrder.{task_run}
use Rattle.host_state.specs.Taking.{HasAttached}
use Rattle.host_state.proofs.states.HostState.attach.Given as goal

abbrev pub invariant-loop-number : goal.invariant-loop-number
invariant-loop-number g l = record {
  attached : HasAttached l.no l.fn.self l.self l.attached l.specs;
  nothing : l.some ≡ false → (l.attached ≡ l.fn.attached) × (l.specs ≡ l.fn.specs);
  none : (p : ℕ) → 1 ≤ p → p ≤ l.number → may_get (task_run l.self.task) l.no p l.self.past ≡ false;
}
