use Rattle.std.proofs.Common.{◌≡◌, ◌≤◌, ℕ, take}
use Rattle.block_finder.specs.Caches.{MayServe}
use Rattle.event_walk.specs.Matches.{classes_of}
use Rattle.watcher_api.specs.Acting.{acts_of, ask_of, walks_of, IsAbsent}
use Rattle.instr_lists.specs.Delivery.{each_walks}
use Rattle.hart_runner.specs.Lists.{AreLists}
use Rattle.hart_runner.specs.Stretches.{events_of}
use Rattle.hart_runner.proofs.delivering.hear_pieces.Given as goal

abbrev pub invariant-loop-piece : goal.invariant-loop-piece
invariant-loop-piece g l = record {
  serves : MayServe l.blocks l.image;
  lists : AreLists l.image l.generation l.specs l.lists;
  acts : acts_of l.attached ≡ acts_of l.fn.attached;
  walked : walks_of l.asks.first l.attached
      ≡ each_walks (classes_of l.image) l.specs (events_of (take l.piece-index l.pieces)) (walks_of l.fn.asks.first l.fn.attached);
  others : (p : ℕ) → 1 ≤ p → IsAbsent p l.fn.attached → ask_of p l.asks.first ≡ ask_of p l.fn.asks.first;
}
