use Rattle.std.proofs.Common.{◌≡◌, ◌<◌, ℕ, None, length}
use Rattle.std.specs.Prelude.{MatchOption, slice_index_or}
use Rattle.run_replay.specs.First.{IsFirstBerth}
use Rattle.run_replay.proofs.opening.first_berths.Given as goal

abbrev pub invariant-loop-no : goal.invariant-loop-no
invariant-loop-no g l = record {
  count : length l.berths.items ≡ l.no;
  first : (h : ℕ) → h < l.no → MatchOption (slice_index_or l.berths.items h None) ⊥ (IsFirstBerth l.image l.harts l.mode h);
}
