use Rattle.std.proofs.Common.{◌≡◌, ◌+◌, ◌<◌, ℕ, false}
use Rattle.flat_model.specs.Registry.{owes}
use Rattle.state_tests.proofs.taking.owes_any.Given as goal

abbrev pub invariant-loop-place : goal.invariant-loop-place
invariant-loop-place l = (p : ℕ) → p < l.place → owes l.registry.table l.no (p + 1) ≡ false
