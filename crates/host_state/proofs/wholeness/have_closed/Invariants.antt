use Rattle.std.proofs.Common.{◌≡◌, ◌<◌, ℕ, false}
use Rattle.std.specs.Prelude.{slice_index_or}
use Rattle.flat_model.specs.Registry.{is_closing, no_plugin}
use Rattle.host_state.proofs.wholeness.have_closed.Given as goal

abbrev pub invariant-loop-place : goal.invariant-loop-place
invariant-loop-place l =
    (k : ℕ) → k < l.place → is_closing (slice_index_or l.registry.table.plugins k no_plugin).state ≡ false
