use Rattle.std.proofs.Common.{sym, ◌∙◌}
use Rattle.cache_model.proofs.Gains.{none_touched}
use Rattle.cache_model.proofs.studies.Caches.new.Goals as goal

pub invariant_of-result : goal.invariant_of-result
invariant_of-result c = λ k d within. c.loop.invariant.shapes k d within ∙ sym c.in_ok-new-2.ensures.shape

pub returns-clause-untouched : goal.returns-clause-untouched
returns-clause-untouched c = record {
  harts = λ h within. none_touched c.loop.own.items c.loop.invariant.fresh h within;
  shared = c.in_ok-new-2.ensures.untouched;
}
