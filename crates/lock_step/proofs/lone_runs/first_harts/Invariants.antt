use Rattle.std.proofs.Common.{◌≡◌, ◌<◌, ℕ, length}
use Rattle.std.specs.Prelude.{slice_index_or}
use Rattle.flat_model.specs.World.{HartState, opening_hart}
use Rattle.lock_step.proofs.lone_runs.first_harts.Given as goal

abbrev pub invariant-loop-no : goal.invariant-loop-no
invariant-loop-no l = record {
  all : length l.first.items ≡ l.no;
  each : (h : ℕ) (d : HartState) → h < l.no → slice_index_or l.first.items h d ≡ opening_hart l.image l.mode h l.harts;
}
