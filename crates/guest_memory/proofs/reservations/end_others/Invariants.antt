use Rattle.std.proofs.Common.{◌≡◌, ℕ, ◌<◌, ◌≤◌, slice_index_or, None}
use Rattle.flat_model.specs.Access.{ended}
use Rattle.guest_memory.proofs.reservations.end_others.Given as goal

abbrev pub invariant-loop-k : goal.invariant-loop-k
invariant-loop-k l = record {
  done : (j : ℕ) → j < l.k → slice_index_or l.reservations j None ≡ ended
      (λ j. slice_index_or l.initial.reservations j None) l.hart l.addr l.n j;
  left : (j : ℕ) → l.k ≤ j → slice_index_or l.reservations j None ≡ slice_index_or l.initial.reservations j None;
}
