use Rattle.std.proofs.Common.{◌≡◌, ◌≤◌, ℕ, map, take}
use Rattle.watcher_api.specs.Attachment.{Attachment}
use Rattle.watcher_api.specs.Acting.{acts_of, ask_of, walks_of, IsAbsent}
use Rattle.instr_lists.specs.Delivery.{all_act}
use Rattle.instr_lists.proofs.delivery.hear_all.Given as goal

abbrev pub invariant-loop-slot : goal.invariant-loop-slot
invariant-loop-slot g l = record {
  same : acts_of l.attached ≡ acts_of l.fn.attached;
  others : (p : ℕ) → 1 ≤ p → IsAbsent p l.fn.attached → ask_of p l.asks.first ≡ ask_of p l.fn.asks.first;
  acted : walks_of l.asks.first l.attached
      ≡ all_act (map (λ (a : Attachment). a.acts) l.fn.attached) l.e (take l.slot-index l.slots) (walks_of l.fn.asks.first l.fn.attached);
}
