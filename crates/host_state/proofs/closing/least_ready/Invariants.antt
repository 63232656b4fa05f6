use Rattle.std.proofs.Common.{◌≡◌, ◌≤◌, ℕ, false}
use Rattle.host_state.specs.Closing.{is_ready}
use Rattle.host_state.proofs.closing.least_ready.Given as goal

abbrev pub invariant-loop-place : goal.invariant-loop-place
invariant-loop-place g l = (p : ℕ) → 1 ≤ p → p ≤ l.place → is_ready l.registry.table l.closers p ≡ false
