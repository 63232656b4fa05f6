use Rattle.std.proofs.Common.{◌≡◌, ◌<◌, ◌⊎◌, ℕ, true, false}
use Rattle.std.specs.Prelude.{slice_index_or}
use Rattle.flat_model.specs.Registry.{has_left}
use Rattle.host_state.proofs.wholeness.are_gone.Given as goal

abbrev pub invariant-loop-hart : goal.invariant-loop-hart
invariant-loop-hart l = (h : ℕ) → h < l.hart
    → (has_left l.registry.table h ≡ true) ⊎ (slice_index_or l.failed h false ≡ true)
