use Rattle.std.proofs.Common.{◌≡◌, ◌+◌, ◌<◌, ◌≤◌, ℕ}
use Rattle.std.specs.Prelude.{if◌then◌else◌, min, slice_index_or}
use Rattle.flat_model.specs.declared.limits.TheConstants.{BLOCK_WORDS}
use Rattle.flat_model.specs.declared.plugins.Ask.TheVariants.{Stay}
use Rattle.flat_model.specs.Asks.{stays}
use Rattle.event_walk.specs.Walk.{first_ask}
use Rattle.run_replay.proofs.stepping.note.Given as goal

abbrev pub invariant-loop-place : goal.invariant-loop-place
invariant-loop-place l = record {
  done : (k : ℕ) → k < l.place → slice_index_or l.asks.first k Stay
      ≡ first_ask (slice_index_or l.fn.asks.first k Stay) (slice_index_or l.asked.first k Stay);
  behind : (k : ℕ) → l.place ≤ k → slice_index_or l.asks.first k Stay ≡ slice_index_or l.fn.asks.first k Stay;
  counted : (k : ℕ) → k < l.place → slice_index_or l.since k 0
      ≡ (if stays (slice_index_or l.fn.asks.first k Stay) then 0 else min (slice_index_or l.fn.since k 0 + 1) BLOCK_WORDS);
  uncounted : (k : ℕ) → l.place ≤ k → slice_index_or l.since k 0 ≡ slice_index_or l.fn.since k 0;
}
