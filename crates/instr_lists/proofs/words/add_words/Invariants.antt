use Rattle.std.proofs.Common.{◌≡◌}
use Rattle.flat_model.specs.Step.{as_events}
use Rattle.event_walk.specs.Matches.{Classes}
use Rattle.watcher_api.specs.Acting.{acts_of, walks_of}
use Rattle.instr_lists.specs.Lists.{HasClasses}
use Rattle.instr_lists.specs.Delivery.{each_walks}
use Rattle.instr_lists.specs.Silence.{words_of}
use Rattle.instr_lists.proofs.words.add_words.Given as goal

abbrev pub invariant-loop-k : goal.invariant-loop-k
invariant-loop-k g l = record {
  same : acts_of l.attached ≡ acts_of l.fn.attached;
  heard : (classes : Classes) → HasClasses classes l.list.block → walks_of l.asks.first l.attached
      ≡ each_walks classes l.list.sets (as_events 0 0 (words_of l.list.block l.k)) (walks_of l.fn.asks.first l.fn.attached);
}
