use Rattle.std.proofs.Common.{◌≡◌, ◌+◌, ◌-◌, ◌<◌, ◌∙◌, ℕ, ap, refl, arith}
use Rattle.std.specs.Prelude.{if◌then◌else◌, min, slice_index_or}
use Rattle.flat_model.specs.declared.limits.TheConstants.{BLOCK_WORDS}
use Rattle.flat_model.specs.declared.plugins.Ask.{Ask}
use Rattle.flat_model.specs.declared.plugins.Ask.TheVariants.{Stay}
use Rattle.flat_model.specs.Asks.{stays}
use Rattle.event_walk.specs.Walk.{first_ask}
use Rattle.run_replay.proofs.Noting.{set_more, set_later}
use Rattle.run_replay.proofs.stepping.note.Goals as goal

pub loop-place-preserved : goal.loop-place-preserved
loop-place-preserved c =
    let was = c.loop-place.invariant in
    let one = c.note_one.ensures in
    let place = c.loop-place.place in
    let asks = c.args.asks.now.first in
    let since = c.args.since.now in
    let asked = c.args.asked.now.first in
    record {
      done = set_more Stay (λ k. first_ask (slice_index_or asks k Stay) (slice_index_or asked k Stay)) place c.loop-place.asks.first
          c.note_one.new.asks.first _ (omega (arith, one.all, c.loop-place-test.true)) one.first
          (ap (λ (a : Ask). first_ask a (slice_index_or asked place Stay)) (was.behind place (omega arith))) was.done;
      behind = set_later Stay place asks c.loop-place.asks.first c.note_one.new.asks.first _ one.first was.behind;
      counted = set_more 0 (λ k. if stays (slice_index_or asks k Stay) then 0 else min (slice_index_or since k 0 + 1) BLOCK_WORDS) place
          c.loop-place.since c.note_one.new.since _ (omega (arith, one.all_since, c.loop-place-test.true)) one.since
          (ap (λ (a : Ask). if stays a then 0 else min (slice_index_or c.loop-place.since place 0 + 1) BLOCK_WORDS)
          (was.behind place (omega arith))
          ∙ ap (λ (n : ℕ). if stays (slice_index_or asks place Stay) then 0 else min (n + 1) BLOCK_WORDS)
          (was.uncounted place (omega arith))) was.counted;
      uncounted = set_later 0 place since c.loop-place.since c.note_one.new.since _ one.since was.uncounted;
    }

pub returns-clause-first : goal.returns-clause-first
returns-clause-first c = λ p one most. c.loop-place.invariant.done (p - 1) (omega (arith, one, most, c.loop-place-test.false))

pub returns-clause-since : goal.returns-clause-since
returns-clause-since c = λ p one most. c.loop-place.invariant.counted (p - 1) (omega (arith, one, most, c.loop-place-test.false))
