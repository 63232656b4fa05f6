use Rattle.std.proofs.Common.{◌≡◌, ◌≤◌, ℕ, take}
use Rattle.event_walk.specs.Matches.{Classes}
use Rattle.watcher_api.specs.Acting.{acts_of, ask_of, walks_of, IsAbsent}
use Rattle.instr_lists.specs.Lists.{HasClasses}
use Rattle.instr_lists.specs.Delivery.{each_walks}
use Rattle.instr_lists.proofs.delivery.deliver_on.Given as goal

abbrev pub invariant-loop-e : goal.invariant-loop-e
invariant-loop-e g l = record {
  same : acts_of l.attached ≡ acts_of l.fn.attached;
  others : (p : ℕ) → 1 ≤ p → IsAbsent p l.fn.attached → ask_of p l.asks.first ≡ ask_of p l.fn.asks.first;
  walked : (classes : Classes) → HasClasses classes l.list.block → walks_of l.asks.first l.attached
      ≡ each_walks classes l.list.sets (take l.e-index l.raw) (walks_of l.fn.asks.first l.fn.attached);
}
