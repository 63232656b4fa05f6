use Rattle.std.proofs.Common.{◌≡◌, ◌<◌, ℕ, true}
use Rattle.flat_model.specs.Registry.{has_left}
use Rattle.host_state.proofs.wholeness.have_left.Given as goal

abbrev pub invariant-loop-hart : goal.invariant-loop-hart
invariant-loop-hart l = (h : ℕ) → h < l.hart → has_left l.registry.table h ≡ true
