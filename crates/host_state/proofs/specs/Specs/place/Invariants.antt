use Rattle.std.proofs.Common.{ℕ, ◌<◌, slice_index_or}
use Rattle.flat_model.specs.declared.plugins.SetSpec.{SetSpec}
use Rattle.host_state.proofs.specs.Specs.place.Given as goal

abbrev pub invariant-loop-place : goal.invariant-loop-place
invariant-loop-place l = (k : ℕ) (d : ℕ × SetSpec) → k < l.place → (slice_index_or l.self k d).0 < l.plugin
