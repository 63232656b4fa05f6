use Rattle.std.proofs.Common.{◌≡◌}
use Rattle.crossbeam_queue.specs.Passes.{view, IsSamePass, IsPassOf as IsPlaceOf}
use Rattle.baton_gate.proofs.gate.Gate.push_later.Given as goal

abbrev pub invariant-loop : goal.invariant-loop
invariant-loop g l = record {
  can_next : (goal.iterator-loop g).can_next l.iterator';
  is_finite : (goal.iterator-loop g).is_finite l.iterator';
  queue : IsPlaceOf l.self.queue l.place;
  same : IsSamePass l.fn.place l.place;
  known : view l.place ≡ view l.fn.place;
  baton : l.baton ≡ l.fn.baton;
}
